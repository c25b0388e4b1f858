-- Flags written as bytes and read back: the lowest bit of a number is the first flag, and the higher ones are the others.
use mathlib.Core.Bool.{Bool}
use mathlib.Core.Path.{◌≡◌, refl, ap, ◌∙◌}
use Prim.Native.Nat.{ℕ, zero, suc, ◌+◌, ◌*◌, ◌/◌, ◌%◌, ◌<◌}
use native.Mathlib.Omega.{arith}
use lib.ListN.{length, get_or}
use Rattle.model.specs.Bits.{one_if, bit, bit_at, Bytes}
use Rattle.model.proofs.Bytes.{one_most, lowest_bit, higher_bit}
use Rattle.merge.specs.Answer.{bits_from, bytes_from}
use Rattle.merge.proofs.Packing.{bits_below}

module _ (f : ℕ → Bool) where
  -- The bits are the flags ..
  bit_back : (n p i : ℕ) → i < n → bit i (bits_from f p n) ≡ f (p + i)
  unfolding bits_from
  bit_back zero p i h = absurd (omega arith)
  bit_back (suc n) p zero h = lowest_bit (bits_from f (suc p) n) (f p) ∙ ap f (omega arith)
  bit_back (suc n) p (suc i) h =
      higher_bit i (bits_from f (suc p) n) (one_if (f p)) (one_most (f p)) ∙ (bit_back n (suc p) i (omega arith) ∙ ap f (omega arith))

  -- .. and each byte holds eight of them.
  byte_back : (n p i : ℕ) → i < n → get_or (bytes_from f p n) i 0 ≡ bits_from f (p + i * 8) 8
  unfolding bytes_from
  byte_back zero p i h = absurd (omega arith)
  byte_back (suc n) p zero h = ap (λ q. bits_from f q 8) (omega arith)
  byte_back (suc n) p (suc i) h = byte_back n (p + 8) i (omega arith) ∙ ap (λ q. bits_from f q 8) (omega arith)

  -- So flag p of 64 is read back from eight bytes.
  pub flag_back : (p : ℕ) → p < 64 → bit_at (bytes_from f 0 8) p ≡ f p
  flag_back p h =
      rw (byte_back 8 0 (p / 8) (omega arith)) (bit_back 8 (0 + p / 8 * 8) (p % 8) (omega arith) ∙ ap f (omega arith))

  -- There are as many bytes as asked for ..
  pub bytes_length : (p n : ℕ) → length (bytes_from f p n) ≡ n
  unfolding bytes_from
  bytes_length p zero = refl
  bytes_length p (suc n) = ap suc (bytes_length (p + 8) n)

  -- .. and they are bytes.
  pub bytes_small : (p n : ℕ) → Bytes (bytes_from f p n)
  unfolding bytes_from
  bytes_small p zero = tt
  bytes_small p (suc n) = (bits_below f p 8, bytes_small (p + 8) n)
