-- The outcomes of a batch, put into a list one after another: as structs, or as bytes.
use mathlib.Core.Bool.{Bool, true, false}
use mathlib.Core.List.{List, [], ◌∷◌, ◌++◌}
use mathlib.Core.Path.{◌≡◌, refl}
use Prim.Native.Nat.{ℕ, zero, suc, ◌+◌, ◌*◌, ◌/◌, ◌%◌, ◌^◌, ◌<◌}
use native.Mathlib.Nat.{add-zero, zero-add, add-suc, suc-add}
use native.Mathlib.Numerals.{add-one}
use native.Mathlib.Omega.{arith}
use lib.ListN.{length, get_or, set, take}
use lib.Seq.{sets}
use mir.Val.{bool_byte}
use Rattle.std.specs.Int.{w16, to_le_bytes}
use Rattle.model.specs.Bits.{one_if}
use Rattle.batch.specs.declared.Outcome.{Outcome}
use Rattle.batch.specs.Bytes.{outcome_bytes}

-- One outcome more adds its bytes at the end.
pub one_more : (i : ℕ) (l : List Outcome) (d : Outcome) → i < length l
    → outcome_bytes (take (i + 1) l) ≡ outcome_bytes (take i l) ++ outcome_bytes (get_or l i d ∷ [])
one_more i l d h = rw (add-one i) (go i l h)
  where
    go : (i : ℕ) (l : List Outcome) → i < length l → outcome_bytes (take (suc i) l) ≡ outcome_bytes (take i l) ++ outcome_bytes (get_or l i d ∷ [])
    go i [] h = absurd (omega arith)
    go zero (o ∷ l) h = refl
    go (suc i) (o ∷ l) h = rw (go i l (omega arith)) refl

-- Each has six bytes.
pub length_outcomes : (os : List Outcome) → length (outcome_bytes os) ≡ 6 * length os
length_outcomes [] = refl
length_outcomes (o ∷ os) = omega (arith, length_outcomes os)

-- A flag as a byte is 1 or 0.
pub flag_byte : (b : Bool) → bool_byte b ≡ one_if b
flag_byte true = refl
flag_byte false = refl

-- A number as two bytes.
pub two_bytes : (n : ℕ) → n < 2 ^ 16 → to_le_bytes w16 n ≡ n % 256 ∷ n / 256 ∷ []
two_bytes n h = let high : n / 256 % 256 ≡ n / 256 = omega arith in rw high

-- One outcome more is stored behind the others.
sets_from : (os list : List Outcome) (k i : ℕ) (d : Outcome) → i < length os
    → set (sets list k (take i os)) (k + i) (get_or os i d) ≡ sets list k (take (suc i) os)
sets_from [] list k i d h = absurd (omega arith)
sets_from (o ∷ os) list k zero d h = rw (add-zero k) refl
sets_from (o ∷ os) list k (suc i) d h = rw (add-suc, ← suc-add) (sets_from os (set list k o) (suc k) i d (omega arith))

pub sets_next : (os list : List Outcome) (i : ℕ) (d : Outcome) → i < length os
    → set (sets list 0 (take i os)) i (get_or os i d) ≡ sets list 0 (take (i + 1) os)
sets_next os list i d h = rw (add-one i) (rw (zero-add i) at (sets_from os list 0 i d h))
