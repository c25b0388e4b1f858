-- Lines and places match one to one: shorter lines fill the places below a line's own length, and within a length the base-g value
-- of n states runs through the places below gⁿ. So each place of the table has just one line.
use mathlib.Core.Bool.{Bool, true, false}
use mathlib.Core.Path.{◌≡◌, refl, ap, sym}
use mathlib.Core.List.{List, [], ◌∷◌}
use mathlib.Core.Logic.{inl, inr}
use Prim.Native.Nat.{ℕ, zero, suc, ◌+◌, ◌-◌, ◌*◌, ◌%◌, ◌^◌, ◌<◌, ◌≤◌, pred}
use native.Mathlib.Nat.{le-suc_iff, pow-zero, pow-succ', mod-lt, div-add-mod', div-lt_iff_lt-mul, lt_of_mul-lt-mul_left}
use native.Mathlib.Omega.{arith}
use lib.Arith.{le-zero, digits_lt, digits_div, digits_mod}
use lib.Dec.{ltb}
use lib.ListN.{length}
use borrow.Author.Tests.{ltb-true, ltb-false}
use Rattle.model.specs.Lines.{States, Line, powers, bits, value, position, digits}

-- n states have a value below gⁿ.
pub value_below : (g : ℕ) (line : List ℕ) → States g line → value g line < g ^ length line
unfolding value
value_below g [] s = omega (arith, pow-zero g)
value_below g (x ∷ xs) s = rw pow-succ' (digits_lt s.0 (value_below g xs s.1))

-- There are as many digits as asked for.
pub length_digits : (g n v : ℕ) → length (digits g n v) ≡ n
unfolding digits
length_digits g zero v = refl
length_digits g (suc n) v = ap suc (length_digits g n (v % g ^ n))

-- Where a power is above something, the power before it is not 0.
positive : (g n : ℕ) {v : ℕ} → v < g ^ suc n → 0 < g ^ n
positive g n h = lt_of_mul-lt-mul_left g (omega (arith, pow-succ' g n))

-- The digits of a value below gⁿ are states.
pub digits_states : (g n v : ℕ) → v < g ^ n → States g (digits g n v)
unfolding digits
digits_states g zero v h = tt
digits_states g (suc n) v h =
    let p = positive g n h in
    ((div-lt_iff_lt-mul p).1 (rw pow-succ' at h), digits_states g n (v % g ^ n) (mod-lt v p))

-- The digits of a value have that value.
pub value_digits : (g n v : ℕ) → v < g ^ n → value g (digits g n v) ≡ v
unfolding digits value
value_digits g zero v h = omega (arith, pow-zero g)
value_digits g (suc n) v h =
    rw (length_digits g n (v % g ^ n), value_digits g n (v % g ^ n) (mod-lt v (positive g n h)), div-add-mod')

-- The digits of a line's value are the line.
pub digits_value : (g : ℕ) (line : List ℕ) → States g line → digits g (length line) (value g line) ≡ line
unfolding digits value
digits_value g [] s = refl
digits_value g (x ∷ xs) s =
    let b = value_below g xs s.1 in
    rw (digits_div x b, digits_mod x b, digits_value g xs s.1)

-- There are no fewer lines up to more states.
powers_mono : (g i j : ℕ) → i ≤ j → powers g i ≤ powers g j
unfolding powers
powers_mono g i zero h = omega (arith, ap (powers g) (le-zero h))
powers_mono g i (suc j) h =
    elim (le-suc_iff.0 h) [ inl l ↦ omega (arith, powers_mono g i j l) | inr e ↦ omega (arith, ap (powers g) e) ]

-- A line of at most n states stands before all the lines that have more than n.
before : {g k n : ℕ} {line : List ℕ} → Line g k line → length line ≤ n → position g line < powers g n
unfolding powers
before {line = []} l h = absurd (omega arith)
before {g} {line = x ∷ xs} l h = omega (arith, value_below g (x ∷ xs) l.states, powers_mono g (suc (length xs)) _ h)

-- The place of a line is within the table.
pub position_below : {g k : ℕ} {line : List ℕ} → Line g k line → position g line < bits g k
position_below l = before l l.most

-- A line is not shorter than another at its place.
not_shorter : {g k : ℕ} {a b : List ℕ} → Line g k a → Line g k b → position g a ≡ position g b → ¬ (length a < length b)
not_shorter {b = b} l m e h = omega (arith, before {n = pred (length b)} l (omega arith))

-- A place determines its line.
pub position_injective : {g k : ℕ} {a b : List ℕ} → Line g k a → Line g k b → position g a ≡ position g b → a ≡ b
position_injective {g} {a = a} {b = b} l m e =
    let lengths : length a ≡ length b = omega (arith, not_shorter l m e, not_shorter m l (sym e)) in
    let values : value g a ≡ value g b = omega (arith, ap (λ (n : ℕ). powers g (pred n)) lengths) in
    cc (digits_value g a l.states, digits_value g b m.states)

-- The n states whose value is v are a line ..
pub digits_line : {g k n v : ℕ} → 1 ≤ n → n ≤ 2 * k → v < g ^ n → Line g k (digits g n v)
digits_line {g} {n = n} {v} some most low =
    record { some = rw length_digits some; most = rw length_digits most; states = digits_states g n v low }

-- .. that stands v places after all shorter lines.
pub digits_position : (g n v : ℕ) → v < g ^ n → position g (digits g n v) ≡ powers g (pred n) + v
digits_position g n v low = rw (length_digits, value_digits g n v low)

-- Some line stands at place p.
abbrev Stood : ℕ → ℕ → ℕ → Type 0
Stood g k p = (line : List ℕ) × Line g k line × (position g line ≡ p)

module _ (g k p : ℕ) where
  -- A place before the lines of more than n + 1 states is one of a shorter line, or of one of n + 1 states.
  stands : (n : ℕ) (b : Bool) → ltb p (powers g n) ≡ b → suc n ≤ 2 * k → p < powers g (suc n) → (p < powers g n → Stood g k p)
      → Stood g k p
  unfolding powers
  stands n true e h l shorter = shorter (ltb-true p (powers g n) e)
  stands n false e h l shorter =
      let past = ltb-false p (powers g n) e in
      let low : p - powers g n < g ^ suc n = omega arith in
      let place = digits_position g (suc n) (p - powers g n) low in
      (digits g (suc n) (p - powers g n), digits_line (omega arith) h low, omega (arith, place))

  up_to : (n : ℕ) → n ≤ 2 * k → p < powers g n → Stood g k p
  unfolding powers
  up_to zero h l = absurd (omega arith)
  up_to (suc n) h l = stands n (ltb p (powers g n)) refl h l (up_to n (omega arith))

  -- Each place of the table has a line.
  pub position_onto : p < bits g k → (line : List ℕ) × Line g k line × (position g line ≡ p)
  position_onto = up_to (2 * k) (omega arith)
