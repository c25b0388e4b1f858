-- `find_lanes` meets its contract. The invariant: the lanes of the lines below v are written.
use mathlib.Core.Path.{◌≡◌}
use Rattle.costs.specs.Lanes.{first_lane}
use Rattle.costs.proofs.Front.{Front}
use Rattle.costs.proofs.slices.find_lanes.Given as goal

abbrev pub invariant-loop-v : goal.invariant-loop-v
invariant-loop-v l = Front (λ v x. x ≡ first_lane l.side v) l.v l.initial.lanes l.lanes
