-- `slice_to` meets its contract. The invariant: the values below v are as they shall be, and those from v on are the old ones.
-- A line of another lane is not written: its old value is the one it shall have.
use mathlib.Core.Bool.{cond}
use mathlib.Core.Path.{◌≡◌}
use lib.Dec.{eqb}
use lib.ListN.{get_or}
use Rattle.costs.specs.Lanes.{first_lane, cost_of}
use Rattle.costs.proofs.Front.{Front}
use Rattle.costs.proofs.reading.Reading.slice_to.Given as goal

abbrev pub invariant-loop-v : goal.invariant-loop-v
invariant-loop-v g l =
    Front
    (λ v x. x ≡ cond (eqb (first_lane l.self.side.now v) l.lane) (cost_of l.self.cells.now l.self.side.now l.top v) (get_or l.initial.costs v 0))
    l.v l.initial.costs l.costs
