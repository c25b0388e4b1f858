-- Whose turn it is, by the turn number's parity: taking two turns off changes neither.
use mathlib.Core.Path.{◌≡◌, refl}
use Prim.Native.Nat.{ℕ, zero, suc, ◌%◌}
use native.Mathlib.Omega.{arith}
use Rattle.model.specs.declared.ThreadId.TheVariants.{A, B}
use Rattle.model.specs.Walk.{owner_of}

-- Even turns are A's ..
pub even_turn : (t : ℕ) → t % 2 ≡ 0 → owner_of t ≡ A
even_turn zero h = refl
even_turn (suc zero) h = absurd (omega arith)
even_turn (suc (suc t)) h = rw (even_turn t (omega arith))

-- .. and odd ones are B's.
pub odd_turn : (t : ℕ) → (t % 2 ≡ 0 → ⊥) → owner_of t ≡ B
odd_turn zero h = absurd (h refl)
odd_turn (suc zero) h = refl
odd_turn (suc (suc t)) h = rw (odd_turn t (λ e. h (omega arith)))
