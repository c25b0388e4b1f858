-- `fill` meets its contract. The invariant: the rules filled in stand before those from both numbers on.
use Prim.Native.Nat.{◌+◌, ◌-◌, ◌≤◌}
use Rattle.merge.specs.Joining.{union_from}
use Rattle.merge.specs.Union.{union_of}
use Rattle.merge.proofs.Filling.{Filling}
use Rattle.merge.proofs.join.fill.Given as goal

abbrev pub invariant-loop-i : goal.invariant-loop-i
invariant-loop-i l =
    (l.i ≤ l.t.count) × (l.j ≤ l.u.count) × Filling (union_of l.t l.u) (union_from l.t l.u l.i l.j) l.count l.rules l.held

abbrev pub decreases-loop-i : goal.decreases-loop-i
decreases-loop-i l = l.total - (l.i + l.j)
