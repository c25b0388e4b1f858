-- A byte put together from its highest bit down: each bit doubles what there is.
use mathlib.Core.Bool.{true, false}
use mathlib.Core.Logic.{◌↔◌}
use Prim.Native.Nat.{ℕ, zero, suc, ◌+◌, ◌-◌, ◌*◌, ◌^◌, ◌<◌, ◌≤◌}
use mathlib.Core.Path.{◌≡◌}
use native.Mathlib.Nat.{pow-zero, pow-succ', pow-le-pow_right}
use native.Mathlib.Omega.{arith}
use lib.Dec.{T}
use Rattle.model.specs.Bits.{bit}
use Rattle.model.proofs.Bytes.{lowest_bit, higher_bit}
use Rattle.draw.specs.Marks.{BitOf, set, unset, Packs}

-- A bit is 0 or 1.
pub bit_small : {Mark : Type 0} {r : ℕ} → BitOf Mark r → r ≤ 1
bit_small (set h) = omega arith
bit_small (unset h) = omega arith

-- The lowest bit of what is put together says whether the last mark stands.
lowest : {Mark : Type 0} {r : ℕ} (byte : ℕ) → BitOf Mark r → T (bit 0 (2 * byte + r)) ↔ Mark
lowest byte (set h) = (λ t. h, λ m. rw (lowest_bit byte true) tt)
lowest byte (unset h) = (λ t. absurd (rw (lowest_bit byte false) at t), λ m. absurd (h m))

-- A byte that is put together so far of the marks from place p on, up to an end.
pub record Packed (Mark : ℕ → Type 0) (end p byte : ℕ) : Type 0 where
  low : byte < 2 ^ (end - p)
  right : (j : ℕ) → p + j < end → T (bit j byte) ↔ Mark (p + j)

pub packed_starts : (Mark : ℕ → Type 0) (end : ℕ) → Packed Mark end end 0
packed_starts Mark end =
    let none : end - end ≡ 0 = omega arith in
    record { low = rw (none, pow-zero) (omega arith); right = λ j h. absurd (omega arith) }

-- The mark before place p goes in at the lowest bit.
pub packed_steps : {Mark : ℕ → Type 0} {end p byte r : ℕ} → 0 < p → p ≤ end → BitOf (Mark (p - 1)) r → Packed Mark end p byte
    → Packed Mark end (p - 1) (2 * byte + r)
packed_steps {Mark} {end} {p} {byte} {r} h l e d =
    let size : end - (p - 1) ≡ suc (end - p) = omega arith in
    record { low = rw (size, pow-succ') (omega (arith, d.low, bit_small e)); right = right }
  where
    right : (j : ℕ) → p - 1 + j < end → T (bit j (2 * byte + r)) ↔ Mark (p - 1 + j)
    right zero l = let same : p - 1 + 0 ≡ p - 1 = omega arith in rw same (lowest byte e)
    right (suc j) l =
        let same : p - 1 + suc j ≡ p + j = omega arith in
        rw (same, higher_bit j byte r (bit_small e)) (d.right j (omega arith))

-- Up to seven marks leave room for one more.
pub packed_room : {Mark : ℕ → Type 0} {end p byte r : ℕ} → end < p + 8 → r ≤ 1 → Packed Mark end p byte → 2 * byte + r < 256
packed_room {end = end} {p} h l d =
    let room : 2 ^ (end - p) ≤ 128 = pow-le-pow_right {n = 2} (omega arith) {i = end - p} {j = 7} (omega arith) in
    omega (arith, d.low)

-- Eight marks are a byte.
pub packed_byte : {Mark : ℕ → Type 0} {p byte : ℕ} (at : ℕ) → p ≡ 8 * at → Packed Mark (8 * at + 8) p byte → Packs Mark byte at
packed_byte at m d j h = rw m at (d.right j (omega arith))
