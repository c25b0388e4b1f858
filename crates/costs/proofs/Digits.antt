-- State j of a line from its value: what stays below one power, divided by the one before it. The powers that a line needs
-- are small.
use mathlib.Core.Path.{◌≡◌, ap}
use Prim.Native.Nat.{ℕ, zero, suc, ◌+◌, ◌-◌, ◌*◌, ◌/◌, ◌%◌, ◌^◌, ◌≤◌, ◌<◌}
use native.Mathlib.Nat.{le_trans, one-le-pow, pow-le-pow_left, pow-le-pow_right}
use native.Mathlib.Nat.{mod-lt, mod-eq_of_lt, mod-mod_of_dvd, dvd-mul_right}
use native.Mathlib.Nat.{div-lt_iff_lt-mul, mul_comm, mul-pos, mul-le-mul, pow-suc}
use native.Mathlib.Numerals.{add-one}
use native.Mathlib.Omega.{arith}
use lib.ListN.{get_or, get_or-eq_default}
use lib.Pow.{pow-add}
use Rattle.model.specs.Lines.{digits}
use Rattle.model.proofs.Positions.{length_digits}
use Rattle.costs.specs.Lanes.{full_lines}

-- The powers of at most 4 up to the sixth.
pub power_small : {g n : ℕ} → g ≤ 4 → n ≤ 6 → g ^ n ≤ full_lines
power_small {g} {n} h l = le_trans (pow-le-pow_left h n) (pow-le-pow_right {n = 4} (omega arith) l)

-- What stays below a power stays so below a lesser one.
mod-pow : (g v j n : ℕ) → j ≤ n → v % g ^ n % g ^ j ≡ v % g ^ j
mod-pow g v j n h =
    let e : j + (n - j) ≡ n = omega arith in
    mod-mod_of_dvd (g ^ j) v (rw (ap (λ (k : ℕ). g ^ k) e) at (rw (← pow-add g j (n - j)) at (dvd-mul_right (g ^ j) (g ^ (n - j)))))

-- State j of the line of n states whose value is v.
digit : (g : ℕ) → 0 < g → (n v j : ℕ) → v < g ^ n → j < n → get_or (digits g n v) j 0 ≡ v % g ^ (n - j) / g ^ (n - 1 - j)
unfolding digits
digit g p zero v j h l = absurd (omega arith)
digit g p (suc n) v zero h l =
    let a : suc n - 0 ≡ suc n = omega arith in
    let b : suc n - 1 - 0 ≡ n = omega arith in
    rw (a, b, mod-eq_of_lt h)
digit g p (suc n) v (suc j) h l =
    let a : suc n - suc j ≡ n - j = omega arith in
    let b : suc n - 1 - suc j ≡ n - 1 - j = omega arith in
    rw (a, b, digit g p n (v % g ^ n) j (mod-lt v (one-le-pow n g p)) (omega arith), mod-pow g v (n - j) n (omega arith))

-- Beyond the end of a line.
pub beyond : (g n v j : ℕ) → n ≤ j → get_or (digits g n v) j 0 ≡ 0
beyond g n v j h = get_or-eq_default (digits g n v) 0 (rw length_digits h)

-- One factor more.
pub raised : {g i k r : ℕ} → r ≡ g ^ i → i < k → g ≤ 4 → k ≤ 6 → (r * g ≡ g ^ (i + 1)) × (r * g ≤ full_lines)
raised {g} {i} {k} {r} e h four six =
    let s : r * g ≡ g ^ (i + 1) = rw (add-one, pow-suc, e) in
    (s, rw s (power_small {n = i + 1} four (omega arith)))

-- A power that divides, and the next one.
pub room : (k : ℕ) {g p : ℕ} → 1 ≤ g → g ≤ 4 → p ≡ g ^ k → p ≤ full_lines → (0 < p) × (0 < p * g) × (p * g ≤ 16384)
room k {g} {p} one four e h =
    let pos : 0 < p = rw e (one-le-pow k g one) in
    (pos, mul-pos pos one, mul-le-mul h four)

-- State j of a line by its two powers.
pub digit_by : {g n v j p : ℕ} → 1 ≤ g → v < g ^ n → j < n → p ≡ g ^ (n - 1 - j)
    → (v % (p * g) / p ≡ get_or (digits g n v) j 0) × (v % (p * g) / p < g)
digit_by {g} {n} {v} {j} {p} one h l e =
    let pos : 0 < p = rw e (one-le-pow (n - 1 - j) g one) in
    let s : n - j ≡ suc (n - 1 - j) = omega arith in (
      rw (digit g one n v j h l, s, pow-suc, e),
      (div-lt_iff_lt-mul pos).1 (rw (mul_comm g p) (mod-lt v (mul-pos pos one))),
    )
