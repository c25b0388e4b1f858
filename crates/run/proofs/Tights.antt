-- The answers of the search for a tight step, from what their tests found.
use mathlib.Core.List.{List}
use mathlib.Core.Path.{◌≡◌}
use Prim.Native.Nat.{ℕ, ◌+◌, ◌-◌, ◌*◌, ◌%◌}
use native.Mathlib.Decide.{ℕ_discrete}
use borrow.Author.Tests.{eq-eqb, ne_eqb}
use lib.Dec.{eqb}
use Rattle.model.specs.declared.Rule.{Rule}
use Rattle.run.specs.declared.head.Head.{Head}
use Rattle.run.specs.Levels.{after_step, Tight, Decides}

-- A rule that applies is tight exactly if it leaves one step fewer.
pub says_tight : (exits levels : List ℕ) (h : Head) (r : Rule) (count steps : ℕ) → r.before.0 ≡ h.control % 4 → r.symbol.0 ≡ h.symbol
    → steps ≡ after_step exits levels h.under (8 * h.passed + r.after.0) r.right
    → Decides (eqb steps (count - 1)) (Tight exits levels h count r)
says_tight exits levels h r count steps p q e =
    elim (ℕ_discrete steps (count - 1)) [
      | yes f ↦ rw (eq-eqb steps (count - 1) f) (record { state = p; symbol = q; steps = rw e at f })
      | no f ↦ rw (ne_eqb steps (count - 1) f) (λ t. f (rw (← e) at t.steps))
    ]
