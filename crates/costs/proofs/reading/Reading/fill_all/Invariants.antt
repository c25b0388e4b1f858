-- `fill_all` meets its contract. The invariant: the costs of the values below v are written.
use mathlib.Core.Path.{◌≡◌}
use Rattle.costs.specs.Lanes.{cost_of}
use Rattle.costs.proofs.Front.{Front}
use Rattle.costs.proofs.reading.Reading.fill_all.Given as goal

abbrev pub invariant-loop-v : goal.invariant-loop-v
invariant-loop-v g l = Front (λ v x. x ≡ cost_of l.self.cells.now l.self.side.now l.top v) l.v l.initial.costs l.costs
