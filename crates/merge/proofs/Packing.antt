-- Flags packed into a byte from the highest down: each flag doubles what is packed and comes below it.
use mathlib.Core.Bool.{Bool, true, false}
use mathlib.Core.Path.{◌≡◌, refl}
use Prim.Native.Nat.{ℕ, zero, suc, ◌+◌, ◌-◌, ◌*◌, ◌^◌, ◌≤◌, ◌<◌}
use native.Mathlib.Nat.{pow-succ'}
use native.Mathlib.Numerals.{add-one}
use native.Mathlib.Omega.{arith}
use lib.Pow.{pow_mono}
use Rattle.std.specs.Int.{from_bool}
use Rattle.model.specs.Bits.{one_if}
use Rattle.model.proofs.Bytes.{one_most}
use Rattle.merge.specs.Answer.{bits_from}

-- A flag as a number.
one : (test : Bool) → from_bool test ≡ one_if test
one true = refl
one false = refl

-- The number of n bits is below 2ⁿ.
pub bits_below : (f : ℕ → Bool) (p n : ℕ) → bits_from f p n < 2 ^ n
unfolding bits_from
bits_below f p zero = omega arith
bits_below f p (suc n) = omega (arith, pow-succ' 2 n, one_most (f p), bits_below f (suc p) n)

module _ (f : ℕ → Bool) where
  -- Of eight flags none is taken at first ..
  pub packs_none : (p : ℕ) → bits_from f p 0 ≡ 0
  unfolding bits_from
  packs_none p = refl

  -- .. and the next one is packed below the others, for which there is room.
  pub packs_more : (p i : ℕ) → i < 8
      → bits_from f (p + 8 - (i + 1)) (i + 1) ≡ 2 * bits_from f (p + 8 - i) i + from_bool (f (p + 7 - i))
  unfolding bits_from
  packs_more p i h =
      let next : suc (p + 7 - i) ≡ p + 8 - i = omega arith in
      let at : p + 8 - (i + 1) ≡ p + 7 - i = omega arith in
      rw (at, add-one, ← next, one (f (p + 7 - i))) refl

  pub packs_room : (p i : ℕ) → i < 8 → bits_from f p i < 128
  packs_room p i h = let low : 2 ^ i ≤ 2 ^ 7 = pow_mono {i = i} {j = 7} (omega arith) in omega (arith, bits_below f p i)
