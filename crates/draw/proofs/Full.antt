-- The line of a place, and its full line, by values: a state more multiplies by g, and the last state of a value is its rest by g.
use mathlib.Core.Path.{◌≡◌, ap, sym, ◌∙◌}
use mathlib.Core.Logic.{⊎_elim}
use mathlib.Core.List.{List, [], ◌∷◌, ◌++◌, append-nil, append_assoc}
use Prim.Native.Nat.{ℕ, zero, suc, ◌+◌, ◌-◌, ◌*◌, ◌/◌, ◌%◌, ◌^◌, ◌<◌, ◌≤◌, pred}
use native.Mathlib.Nat.{pow-zero, pow-suc, pow-succ', pow-le-pow_right, le_trans, eq-or-lt_of_le, one-mul}
use native.Mathlib.Nat.{add-mul, mul_assoc, add_assoc, mul-le-mul, mod-lt, mod-eq_of_lt, div-one, mod-mod_of_dvd, dvd-mul_right}
use native.Mathlib.Numerals.{add-one}
use native.Mathlib.Omega.{arith}
use lib.Arith.{digits_lt}
use lib.ListN.{length, replicate, length-append, replicate-append-replicate}
use Rattle.model.specs.Lines.{powers, bits, last_of, value, digits}
use Rattle.model.proofs.Positions.{length_digits, value_digits, digits_line, digits_position}
use Rattle.costs.specs.Lanes.{full_lines}
use Rattle.costs.proofs.Digits.{power_small}
use Rattle.draw.specs.Marks.{padded, FullAt}

-- A further factor fits.
pub product_small : {v g : ℕ} → v ≤ full_lines → g ≤ 4 → v * g ≤ 16384
product_small h l = mul-le-mul h l

-- One state more.
value_more : (g : ℕ) (xs : List ℕ) (x : ℕ) → value g (xs ++ x ∷ []) ≡ value g xs * g + x
unfolding value
value_more g [] x = rw pow-zero (omega arith)
value_more g (y ∷ xs) x =
    let e : y * g ^ length (xs ++ x ∷ []) + value g (xs ++ x ∷ []) ≡ (y * g ^ length xs + value g xs) * g + x =
    rw (length-append, add-one, pow-suc, value_more g xs x, add-mul, mul_assoc, add_assoc) in
    e

-- The last state of n digits.
last_digit : (g n v x : ℕ) → 0 < g → v < g ^ suc n → last_of x (digits g (suc n) v) ≡ v % g
unfolding digits
last_digit g zero v x p h =
    let b : v < g = rw (pow-suc, pow-zero, one-mul) at h in
    rw (pow-zero, div-one) (sym (mod-eq_of_lt b))
last_digit g (suc n) v x p h =
    let b : 0 < g ^ suc n = le_trans (omega (arith, pow-zero g)) (pow-le-pow_right p {i = 0} {j = suc n} (omega arith)) in
    last_digit g n (v % g ^ suc n) (v / g ^ suc n) p (mod-lt v b) ∙ rw pow-succ' (mod-mod_of_dvd g v (dvd-mul_right g (g ^ n)))

-- The same for any number of digits but 0.
pub last_digits : (g n v x : ℕ) → 0 < g → 0 < n → v < g ^ n → last_of x (digits g n v) ≡ v % g
last_digits g zero v x p l h = absurd (omega arith)
last_digits g (suc n) v x p l h = last_digit g n v x p h

-- On the way to the line at place p: the lines of up to n states are passed, `rest` of the place is left, and there are `power`
-- lines of one state more.
pub record Reached (g k p rest n power : ℕ) : Type 0 where
  pub inside : n < 2 * k
  pub size : power ≡ g ^ suc n
  pub place : powers g n + rest ≡ p

pub reached_starts : (g k p : ℕ) → 1 ≤ k → Reached g k p p 0 g
unfolding powers
reached_starts g k p h = record {
  inside = omega arith;
  size = rw (pow-suc, pow-zero, one-mul);
  place = omega arith;
}

pub reached_steps : {g k p rest n power : ℕ} → p < bits g k → power ≤ rest → Reached g k p rest n power
    → Reached g k p (rest - power) (n + 1) (power * g)
unfolding powers
reached_steps {g} {k} {p} {rest} {n} {power} h l d =
    let passed : powers g (suc n) ≤ p = omega (arith, d.size, d.place) in
    let inner : suc n < 2 * k =
    ⊎_elim (λ e. absurd (omega (arith, ap (powers g) e))) (λ l. l) (eq-or-lt_of_le d.inside) in
    record {
      inside = rw add-one inner;
      size = rw (add-one, pow-suc, ← d.size);
      place = rw add-one (omega (arith, d.size, d.place));
    }

pub reached_small : {g k p rest n power : ℕ} → g ≤ 4 → k ≤ 3 → Reached g k p rest n power → power ≤ full_lines
reached_small {n = n} h l d = omega (arith, d.size, power_small {n = suc n} h (omega (arith, d.inside)))

pub reached_ends : {g k p rest n power : ℕ} → rest < power → Reached g k p rest n power → rest < g ^ (n + 1)
reached_ends h d = rw add-one (omega (arith, d.size))

-- The line there has n + 1 states, and `rest` is its value.
pub reached_full : {g k p rest n power v : ℕ} → rest < power → Reached g k p rest n power
    → v ≡ value g (padded k (digits g (n + 1) rest)) → FullAt g k p v
reached_full {g} {k} {rest = rest} {n} h d e =
    let low = reached_ends h d in
    let before : powers g (pred (n + 1)) ≡ powers g n = rw add-one in
    record {
      line = digits g (n + 1) rest;
      sound = digits_line (omega arith) (omega (arith, d.inside)) low;
      place = digits_position g (n + 1) rest low ∙ rw before d.place;
      full = e;
    }

-- The line of n states with the value w, and its last state repeated up to i states, has the value v.
pub record Padding (g n w i v : ℕ) : Type 0 where
  pub from : n ≤ i
  pub same : v ≡ value g (digits g n w ++ replicate (i - n) (w % g))
  pub low : v < g ^ i

pub padding_starts : (g n w : ℕ) → w < g ^ n → Padding g n w n w
padding_starts g n w h = record {
  from = omega arith;
  same = let e : n - n ≡ 0 = omega arith in rw (e, append-nil) (sym (value_digits g n w h));
  low = h;
}

pub padding_steps : {g n w i v : ℕ} → 0 < g → Padding g n w i v → Padding g n w (i + 1) (v * g + w % g)
padding_steps {g} {n} {w} {i} {v} p h = record {
  from = omega arith;
  same =
      let e : i + 1 - n ≡ (i - n) + 1 = omega arith in
      rw (e, ← replicate-append-replicate (i - n) 1 (w % g), ← append_assoc, value_more, ← h.same);
  low = rw (add-one, pow-suc) (digits_lt h.low (mod-lt w p));
}

pub padding_ends : {g w v : ℕ} (k n : ℕ) → 0 < g → 0 < n → w < g ^ n → Padding g n w (2 * k) v
    → v ≡ value g (padded k (digits g n w))
padding_ends {g} {w} k n p l b h = rw (length_digits, last_digits g n w 0 p l b) h.same

pub padding_small : {g n w i v : ℕ} → g ≤ 4 → i ≤ 6 → Padding g n w i v → v < full_lines
padding_small h l d = omega (arith, d.low, power_small h l)
