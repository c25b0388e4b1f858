-- What is printed for a model that is Clear is fixed: the marked lines are, so each length has one number of them.
use mathlib.Core.Bool.{Bool}
use mathlib.Core.List.{List}
use mathlib.Core.Path.{◌≡◌, refl, sym, ◌∙◌}
use Prim.Native.Nat.{ℕ, zero, suc, ◌*◌, ◌^◌, ◌≤◌}
use native.Mathlib.Omega.{arith}
use Rattle.model.specs.declared.Model.{Model}
use Rattle.model.specs.Lines.{Line, digits}
use Rattle.model.proofs.Positions.{digits_line}
use Rattle.model.proofs.Tests.{agree}
use Rattle.report.specs.Prints.{Counts}
use Rattle.report.specs.Text.{count_lines}
use Rattle.report.proofs.Counting.{count_same}

-- The same lines are printed of sets that agree.
lines_same : (g k : ℕ) (f h : List ℕ → Bool) → ((line : List ℕ) → Line g k line → f line ≡ h line) → (n : ℕ) → n ≤ 2 * k
    → count_lines g f n ≡ count_lines g h n
unfolding count_lines
lines_same g k f h e zero l = refl
lines_same g k f h e (suc n) l =
    rw (
      lines_same g k f h e n (omega arith),
      count_same (λ v. f (digits g (suc n) v)) (λ v. h (digits g (suc n) v)) (g ^ suc n)
          (λ v low. e (digits g (suc n) v) (digits_line (omega arith) l low)),
    )

-- A model has one such text.
pub counts_fixed : {m : Model} {s t : List ℕ} → Counts m s → Counts m t → s ≡ t
counts_fixed {m} p q =
    p.same ∙ rw (lines_same m.g m.k p.has q.has
    (λ line l. agree (p.has line) (q.has line) (p.marks line l) (q.marks line l)) (2 * m.k) (omega arith)) (sym q.same)
