-- How answers are counted.
use Rattle.std.specs.Prelude.{Bool, ◌≡◌, ℕ, ◌-◌, ◌^◌, min}

-- A count in 64 bits: so many, or the greatest that there is.
abbrev pub count : ℕ → ℕ
count n = min n (2 ^ 64 - 1)

-- Each call answers b.
abbrev pub Answers : {C : Type 0} → (C → Bool → C → Type 0) → Bool → Type 0
Answers {C} post b = (c d : C) (r : Bool) → post c r d → r ≡ b
