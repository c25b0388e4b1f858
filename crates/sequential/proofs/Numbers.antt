-- The order of states as numbers: at the first digit where they differ the lower one decides, since all the digits after one come to less
-- than one of it. So copies that ascend in base G do so in base ten.
use mathlib.Core.List.{List, [], ◌∷◌}
use mathlib.Core.Logic.{◌↔◌}
use mathlib.Core.Path.{◌≡◌, refl, sym, ◌∙◌}
use Prim.Native.Nat.{ℕ, zero, suc, ◌^◌, ◌≤◌, ◌<◌}
use native.Mathlib.Decide.{dec_lt}
use native.Mathlib.Omega.{arith}
use lib.Arith.{digits_lt}
use lib.ListN.{length, set, length-set}
use Rattle.model.proofs.Positions.{value_below, value_digits, length_digits, digits_states}
use Rattle.model.specs.Lines.{States, value, digits}
use Rattle.sequential.specs.Allowed.{at}
use Rattle.sequential.specs.Listed.{number_of}

-- States below g are below each number that g is at most.
pub widen : {g h : ℕ} (xs : List ℕ) → g ≤ h → States g xs → States h xs
widen [] l s = tt
widen (x ∷ xs) l s = (omega (arith, s.0), widen xs l s.1)

-- States below g are so still where one of them becomes another that is.
pub set_states : {g q : ℕ} (xs : List ℕ) (i : ℕ) → q < g → States g xs → States g (set xs i q)
set_states [] i h s = tt
set_states (x ∷ xs) zero h s = (h, s.1)
set_states (x ∷ xs) (suc i) h s = (s.0, set_states xs i h s.1)

module _ (g : ℕ) where
  -- Of two numbers with as many digits that with the lower first digit is the lower ..
  first_lower : (x y : ℕ) (xs ys : List ℕ) → length xs ≡ length ys → States g xs → x < y → value g (x ∷ xs) < value g (y ∷ ys)
  unfolding value
  first_lower x y xs ys e s h = rw (← e) (omega (arith, digits_lt h (value_below g xs s)))

  -- .. and where that is the same, those after it decide.
  first-same : (x y : ℕ) (xs ys : List ℕ) → x ≡ y → length xs ≡ length ys
      → (value g (x ∷ xs) < value g (y ∷ ys)) ↔ (value g xs < value g ys)
  unfolding value
  first-same x y xs ys d e = rw (d, e) (λ h. omega arith, λ h. omega arith)

-- What ascends in a base does so in all greater ones.
higher_base : (g h : ℕ) → g ≤ h → (xs ys : List ℕ) → length xs ≡ length ys → States g xs → States g ys → value g xs < value g ys
    → value h xs < value h ys
unfolding value
higher_base g h up [] [] e s t l = absurd (omega arith)
higher_base g h up [] (y ∷ ys) e s t l = absurd (omega arith)
higher_base g h up (x ∷ xs) [] e s t l = absurd (omega arith)
higher_base g h up (x ∷ xs) (y ∷ ys) e s t l =
    let d : length xs ≡ length ys = omega arith in
    elim (dec_lt x y) [
      | yes k ↦ first_lower h x y xs ys d (widen xs up s.1) k
      | no k ↦ elim (dec_lt y x) [
        | yes j ↦ absurd (omega (arith, first_lower g y x ys xs (sym d) t.1 j))
        | no j ↦
            let o : x ≡ y = omega arith in
            (first-same h x y xs ys o d).1 (higher_base g h up xs ys d s.1 t.1 ((first-same g x y xs ys o d).0 l))
      ]
    ]

-- The states of any two values are as many.
pub as_many : (g n v w : ℕ) → length (digits g n v) ≡ length (digits g n w)
as_many g n v w = length_digits g n v ∙ sym (length_digits g n w)

-- The n states with the lower value are the lower number in base ten.
pub values_ascend : (g n v w : ℕ) → g ≤ 10 → v < w → w < g ^ n → value 10 (digits g n v) < value 10 (digits g n w)
values_ascend g n v w up h k =
    let low : v < g ^ n = omega arith in
    higher_base g 10 up (digits g n v) (digits g n w) (as_many g n v w) (digits_states g n v low) (digits_states g n w k)
    (rw (value_digits g n v low, value_digits g n w k) h)

-- A lower state in a place gives a lower number.
pub lower_in : (g p q : ℕ) (xs : List ℕ) (i : ℕ) → p < q → i < length xs → States g xs → value g (set xs i p) < value g (set xs i q)
lower_in g p q [] i h k s = absurd (omega arith)
lower_in g p q (x ∷ xs) zero h k s = first_lower g p q xs xs refl s.1 h
lower_in g p q (x ∷ xs) (suc i) h k s =
    (first-same g x x (set xs i p) (set xs i q) refl (length-set xs i p ∙ sym (length-set xs i q))).1
    (lower_in g p q xs i h (omega arith) s.1)

module _ (xs ys : List ℕ) (e : length xs ≡ length ys) where
  -- A state with a lower counter is a lower number ..
  pub counter_lower : (c d : ℕ) → States 10 xs → c < d → number_of (at c xs) < number_of (at d ys)
  unfolding number_of
  counter_lower c d s h = first_lower 10 c d xs ys e s h

  -- .. and so is one with lower copies at the same counter.
  pub copies_lower : (c : ℕ) → value 10 xs < value 10 ys → number_of (at c xs) < number_of (at c ys)
  unfolding number_of
  copies_lower c h = (first-same 10 c c xs ys refl e).1 h
