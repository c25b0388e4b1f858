-- The least over the ways to the end is at most each of them, and one of them.
use mathlib.Core.Logic.{◌⊎◌, inl, inr, ⊎_elim}
use mathlib.Core.Path.{◌≡◌, refl}
use Prim.Native.Nat.{ℕ, zero, suc, ◌+◌, ◌≤◌, ◌<◌, min}
use native.Mathlib.Numerals.{add-one}
use native.Mathlib.Decide.{dec_lt}
use native.Mathlib.Nat.{le_refl}
use native.Mathlib.Omega.{arith}
use Rattle.run.specs.Exits.{least_over}

module _ (row rest : ℕ → ℕ) where
  -- With the symbol still there it is no less.
  pub over_stay : (k : ℕ) → least_over row rest k ≤ row 24
  unfolding least_over
  over_stay zero = le_refl (row 24)
  over_stay (suc k) = omega (arith, over_stay k)

  -- By way of each place it is no less ..
  pub over_each : (k y : ℕ) → y < k → least_over row rest k ≤ row y + rest y
  unfolding least_over
  over_each zero y h = absurd (omega arith)
  over_each (suc k) y h =
      elim (dec_lt y k) [
        | yes l ↦ omega (arith, over_each k y l)
        | no l ↦ let same : k ≡ y = omega arith in rw same (omega arith)
      ]

  -- .. and it is one of these.
  pub over-one : (k : ℕ) → (least_over row rest k ≡ row 24) ⊎ ((y : ℕ) × (y < k) × (least_over row rest k ≡ row y + rest y))
  unfolding least_over
  over-one zero = inl refl
  over-one (suc k) =
      elim (dec_lt (row k + rest k) (least_over row rest k)) [
        | yes l ↦ inr (k, omega arith, omega arith)
        | no l ↦
            let same : min (least_over row rest k) (row k + rest k) ≡ least_over row rest k = omega arith in
            rw same (⊎_elim (λ e. inl e) (λ e. inr (e.0, omega (arith, e.1), e.2)) (over-one k))
      ]

-- A loop over the ways: the least over the first y of them, which fits a cell.
pub record Taking (row rest : ℕ → ℕ) (y best : ℕ) : Type 0 where
  pub low : y ≤ 24
  pub least : best ≡ least_over row rest y
  pub small : best < 65536

-- Before the first place there is the way that stays.
pub taking_none : {row rest : ℕ → ℕ} {best : ℕ} → best ≡ row 24 → best < 65536 → Taking row rest 0 best
unfolding least_over
taking_none e l = record { low = omega arith; least = e; small = l }

-- One place more.
pub taking_one : {row rest : ℕ → ℕ} {y best gone new : ℕ} → Taking row rest y best → y < 24 → gone ≡ row y → new ≡ min best (gone + rest y)
    → Taking row rest (y + 1) new
unfolding least_over
taking_one {y = y} t h e f =
    record { low = omega arith; least = rw (add-one y) (rw (e, t.least) at f); small = omega (arith, t.small, f) }

-- After the last place it is the least over all.
pub taking_all : {row rest : ℕ → ℕ} {y best : ℕ} → Taking row rest y best → 24 ≤ y → (best ≡ least_over row rest 24) × (best < 65536)
taking_all {y = y} t h = let same : y ≡ 24 = omega (arith, t.low) in (rw same at t.least, t.small)
