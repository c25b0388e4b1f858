-- The contract of each call is an equation, and two answers that equal a third are the same.
use mathlib.Core.Bool.{Bool}
use mathlib.Core.List.{List}
use mathlib.Core.Path.{◌≡◌, sym, ◌∙◌}
use Prim.Native.Nat.{ℕ}
use Rattle.model.specs.declared.Model.{Model}
use Rattle.model.specs.declared.Rule.{Rule}
use Rattle.model.specs.declared.refusal.Refusal.{Refusal}
use Rattle.std.specs.Prelude.{Result}
use Rattle.model.proofs.Refusals.{due_names}
use Rattle.model.proofs.refusal.Refusal.number.Reads as number
use Rattle.model.proofs.refusal.need.Reads as need
use Rattle.model.proofs.all_zero.Reads as all-zero
use Rattle.model.proofs.check_across.Reads as check-across
use Rattle.model.proofs.check.Reads as check
use Rattle.model.proofs.is_held.Reads as is_held_lem
use Rattle.model.proofs.key.Reads as key
use Rattle.model.proofs.line_bits.Reads as line-bits
use Rattle.model.proofs.zero_model.Reads as zero-model

-- Each contract is `Post`, of the arguments, the answer and the arguments at exit. Two answers that meet it are the same: it determines ..

-- .. a model's first fault, ..
pub check_determined : (m : Model) (r s : Result (Unit {0}) Refusal)
    → check.Post tt (m, tt) r (m, tt) → check.Post tt (m, tt) s (m, tt) → r ≡ s
check_determined m r s p q = due_names r s (p ∙ sym q)

-- .. its first fault between parts, ..
pub check_across_determined : (m : Model) (r s : Result (Unit {0}) Refusal)
    → check-across.Post tt (m, tt) r (m, tt) → check-across.Post tt (m, tt) s (m, tt) → r ≡ s
check_across_determined m r s p q = due_names r s (p ∙ sym q)

-- .. the number of a refusal, ..
pub number_determined : (x : Refusal) (r s : ℕ) → number.Post tt (x, tt) r (x, tt) → number.Post tt (x, tt) s (x, tt) → r ≡ s
number_determined x r s p q = p ∙ sym q

-- .. a test and its refusal, ..
pub need_determined : (test : Bool) (x : Refusal) (r s : Result (Unit {0}) Refusal)
    → need.Post tt (test, (x, tt)) r (test, (x, tt)) → need.Post tt (test, (x, tt)) s (test, (x, tt)) → r ≡ s
need_determined test x r s p q = due_names r s (p ∙ sym q)

-- .. the key of a rule, ..
pub key_determined : (x : Rule) (r s : ℕ) → key.Post tt (x, tt) r (x, tt) → key.Post tt (x, tt) s (x, tt) → r ≡ s
key_determined x r s p q = p ∙ sym q

-- .. whether a rule is held, ..
pub is_held_determined : (marks : List ℕ) (n : ℕ) (r s : Bool)
    → is_held_lem.Post tt (marks, (n, tt)) r (marks, (n, tt)) → is_held_lem.Post tt (marks, (n, tt)) s (marks, (n, tt)) → r ≡ s
is_held_determined marks n r s p q = p ∙ sym q

-- .. whether no mark stands, ..
pub all_zero_determined : (marks : List ℕ) (r s : Bool)
    → all-zero.Post tt (marks, tt) r (marks, tt) → all-zero.Post tt (marks, tt) s (marks, tt) → r ≡ s
all_zero_determined marks r s p q = p ∙ sym q

-- .. the model that is all zero, ..
pub zero_model_determined : (r s : Model) → zero-model.Post tt tt r tt → zero-model.Post tt tt s tt → r ≡ s
zero_model_determined r s p q = p ∙ sym q

-- .. and how many lines there are.
pub line_bits_determined : (g k r s : ℕ)
    → line-bits.Post tt (g, (k, tt)) r (g, (k, tt)) → line-bits.Post tt (g, (k, tt)) s (g, (k, tt)) → r ≡ s
line_bits_determined g k r s p q = p ∙ sym q
