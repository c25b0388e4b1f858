-- `has_clash` meets its contract. The invariant: the rules from both numbers on clash exactly if all do.
use mathlib.Core.Path.{◌≡◌}
use Prim.Native.Nat.{◌+◌, ◌-◌, ◌≤◌}
use Rattle.merge.specs.Joining.{union_from}
use Rattle.merge.specs.Union.{union_of, clash}
use Rattle.merge.proofs.join.has_clash.Given as goal

abbrev pub invariant-loop-i : goal.invariant-loop-i
invariant-loop-i l =
    (l.i ≤ l.t.count) × (l.j ≤ l.u.count) × (clash (union_from l.t l.u l.i l.j) ≡ clash (union_of l.t l.u))

abbrev pub decreases-loop-i : goal.decreases-loop-i
decreases-loop-i l = l.total - (l.i + l.j)
