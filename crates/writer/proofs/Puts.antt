-- Bytes put one after another: what each helper of the writer puts adds up to the whole.
use mathlib.Core.List.{List, [], ◌∷◌, ◌++◌, append_assoc, append-nil}
use mathlib.Core.Path.{◌≡◌, refl}
use Prim.Native.Nat.{ℕ, zero, suc, ◌+◌, ◌≤◌, ◌<◌}
use native.Mathlib.Numerals.{add-one}
use native.Mathlib.Omega.{arith}
use lib.ListN.{length, take, get_or, length-append}
use Rattle.model.specs.declared.Rule.{Rule}
use Rattle.model.specs.Rules.{zero_rule}
use Rattle.model.proofs.Stores.{sets_append}
use Rattle.writer.specs.Put.{Put}
use Rattle.writer.specs.Writer.{rule_bytes, rule_list_of}

-- Nothing put.
pub nothing : (l : List ℕ) (i : ℕ) → Put l l i i []
nothing l i = record { stored = refl; ends = omega arith }

-- Bytes put, and then others from the place after them.
infixl 20 ◌then◌
pub ◌then◌ : {l m n : List ℕ} {i j k : ℕ} {a b : List ℕ} → Put l m i j a → Put m n j k b → Put l n i k (a ++ b)
◌then◌ {i = i} {a = a} {b = b} p q = record {
  stored = rw (← sets_append, ← p.stored, ← p.ends) q.stored;
  ends = simp length-append (omega arith);
}

-- One rule more of a list adds its bytes at the end ..
pub one_more : (i : ℕ) (l : List Rule) → i < length l
    → rule_list_of (take (i + 1) l) ≡ rule_list_of (take i l) ++ rule_bytes (get_or l i zero_rule)
unfolding rule_list_of
one_more i l h = rw add-one (go i l h)
  where
    go : (i : ℕ) (l : List Rule) → i < length l
        → rule_list_of (take (suc i) l) ≡ rule_list_of (take i l) ++ rule_bytes (get_or l i zero_rule)
    go i [] h = absurd (omega arith)
    go zero (r ∷ l) h = append-nil _
    go (suc i) (r ∷ l) h = rw (go i l (omega arith), append_assoc)

-- .. and they are among the bytes of the whole.
pub among : (i : ℕ) (l : List Rule) → i < length l
    → length (rule_list_of (take i l)) + length (rule_bytes (get_or l i zero_rule)) ≤ length (rule_list_of l)
unfolding rule_list_of
among i [] h = absurd (omega arith)
among zero (r ∷ l) h = simp length-append (omega arith)
among (suc i) (r ∷ l) h = simp length-append (omega (arith, among i l (omega arith)))
