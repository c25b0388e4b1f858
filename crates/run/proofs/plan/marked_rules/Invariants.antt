-- `marked_rules` meets its contract. The invariant: the rules before r are marked.
use mathlib.Core.Path.{◌≡◌}
use Prim.Native.Nat.{ℕ, ◌<◌}
use lib.ListN.{length}
use Rattle.run.specs.Marked.{marked_at, marked_rule}
use Rattle.run.proofs.plan.marked_rules.Given as goal

abbrev pub invariant-loop-r : goal.invariant-loop-r
invariant-loop-r l = (length l.rules ≡ 64) × ((r : ℕ) → r < l.r → marked_at l.rules r ≡ marked_rule l.th r)
