-- Marks of held rules: none stands on the rule numbers from a place on exactly if none does on each, by recursion on how many there are; and
-- in bytes that are all 0 none stands.
use mathlib.Core.Bool.{Bool, true, false, not}
use mathlib.Core.List.{List, [], ◌∷◌}
use mathlib.Core.Logic.{◌↔◌}
use mathlib.Core.Path.{◌≡◌, refl}
use Prim.Native.Nat.{ℕ, zero, suc, ◌+◌, ◌-◌, ◌/◌, ◌%◌, ◌^◌, ◌≤◌, ◌<◌}
use native.Mathlib.Nat.{zero-div}
use native.Mathlib.Numerals.{add-one}
use native.Mathlib.Omega.{arith}
use lib.Dec.{T, eqb}
use lib.Pointwise.{pointwise}
use lib.ListN.{length, get_or, replicate, get_or-eq_default}
use Rattle.model.specs.Bits.{bit_at, all_zero}
use Rattle.model.specs.Valid.{free_from}
use Rattle.model.proofs.Tests.{passed, both, equal, negated, each_from}

-- No mark stands on n rule numbers from r on exactly if none stands on each of them.
pub free : (l : List ℕ) (n r : ℕ) → T (free_from l r n) ↔ ((i : ℕ) → r ≤ i → i < r + n → bit_at l i ≡ false)
unfolding free_from
free l = each_from (λ r n. T (free_from l r n)) (λ i. bit_at l i ≡ false) (λ r. tt) λ r n.
    let test = both (not (bit_at l r)) (free_from l (suc r) n) in
    let clear = negated (bit_at l r) in
    (λ h. let z = test.0 h in (clear.0 z.0, z.1), λ f. test.1 (clear.1 f.0, f.1))

-- The rule numbers from r on, of 64.
abbrev pub free_on : List ℕ → ℕ → Bool
free_on l r = free_from l r (64 - r)

-- A loop over them: where number r is held, not all from r on are free ..
pub found : (l : List ℕ) (r : ℕ) → r < 64 → bit_at l r ≡ true → free_on l r ≡ false
unfolding free_from
found l r h e = let s : 64 - r ≡ suc (64 - suc r) = omega arith in rw (s, e)

-- .. and where it is not, those after it decide.
pub onward : (l : List ℕ) (r : ℕ) → r < 64 → bit_at l r ≡ false → free_on l (r + 1) ≡ free_on l r
unfolding free_from
onward l r h e = let s : 64 - r ≡ suc (64 - suc r) = omega arith in rw (s, e, add-one)

-- Past the last there is none to look at.
pub past : (l : List ℕ) (r : ℕ) → 64 ≤ r → free_on l r ≡ true
unfolding free_from
past l r h = let s : 64 - r ≡ 0 = omega arith in rw s

-- Bytes are all 0 exactly if they equal as many zeros.
pub zeros : (l : List ℕ) (n : ℕ) → length l ≡ n → pointwise eqb l (replicate n 0) ≡ all_zero l
unfolding all_zero
zeros [] zero e = refl
zeros [] (suc n) e = absurd (omega (arith, e))
zeros (b ∷ bs) zero e = absurd (omega (arith, e))
zeros (b ∷ bs) (suc n) e = rw (zeros bs n (omega (arith, e)))

-- Each byte of such a list is 0.
zero_byte : (l : List ℕ) → T (all_zero l) → (i : ℕ) → get_or l i 0 ≡ 0
unfolding all_zero
zero_byte [] z i = refl
zero_byte (b ∷ bs) z zero = (equal b 0).0 ((both (eqb b 0) (all_zero bs)).0 z).0
zero_byte (b ∷ bs) z (suc i) = zero_byte bs ((both (eqb b 0) (all_zero bs)).0 z).1 i

-- So no bit of it stands.
pub no_bit : (l : List ℕ) → T (all_zero l) → (p : ℕ) → bit_at l p ≡ false
no_bit l z p = rw (zero_byte l z (p / 8), zero-div (2 ^ (p % 8))) refl

-- Where no mark stands, all rule numbers from r on are free.
pub all_free : (l : List ℕ) (r : ℕ) → all_zero l ≡ true → free_on l r ≡ true
all_free l r z = passed (free_on l r) ((free l (64 - r) r).1 (λ i h k. no_bit l (rw z tt) i))

-- Beyond its bytes a list has no bit that stands.
pub bit_beyond : (l : List ℕ) (p : ℕ) → length l ≡ 8 → 64 ≤ p → bit_at l p ≡ false
bit_beyond l p e h =
    rw (get_or-eq_default l 0 {n = p / 8} (omega arith), zero-div (2 ^ (p % 8))) refl
