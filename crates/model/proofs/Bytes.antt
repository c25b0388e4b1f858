-- Bytes: parts of a list of them are bytes, a bit put below a number, and bytes whose bits are the same are the same, by halves.
use mathlib.Core.Bool.{Bool, true, false, true≢false}
use mathlib.Core.List.{List, [], ◌∷◌, ◌++◌}
use mathlib.Core.Path.{◌≡◌, refl, sym, ap, ◌∙◌}
use Prim.Native.Nat.{ℕ, zero, suc, ◌+◌, ◌*◌, ◌/◌, ◌%◌, ◌^◌, ◌≤◌, ◌<◌}
use native.Mathlib.Nat.{div-div-eq-div-mul, pow-succ', div-one}
use native.Mathlib.Omega.{arith}
use lib.Dec.{eqb}
use lib.ListN.{length, get_or}
use lib.Seq.{ext_get_or}
use Rattle.model.specs.Bits.{bit, one_if, bit_at, Bytes}

-- Each number of a list of bytes is one.
pub byte_at : (l : List ℕ) → Bytes l → (i : ℕ) → get_or l i 0 < 256
byte_at [] h i = omega arith
byte_at (b ∷ l) h zero = h.0
byte_at (b ∷ l) h (suc i) = byte_at l h.1 i

-- The parts of a list of bytes are bytes.
pub ahead : (front rest : List ℕ) → Bytes (front ++ rest) → Bytes front
ahead [] rest h = tt
ahead (b ∷ front) rest h = (h.0, ahead front rest h.1)

pub behind : (front rest : List ℕ) → Bytes (front ++ rest) → Bytes rest
behind [] rest h = h
behind (b ∷ front) rest h = behind front rest h.1

-- Numbers below 2 that are both 1 or neither.
parity : (x y : ℕ) → x < 2 → y < 2 → eqb x 1 ≡ eqb y 1 → x ≡ y
parity zero zero h k e = refl
parity zero (suc zero) h k e = absurd (true≢false (sym e))
parity (suc zero) zero h k e = absurd (true≢false e)
parity (suc zero) (suc zero) h k e = refl
parity zero (suc (suc y)) h k e = absurd (omega arith)
parity (suc zero) (suc (suc y)) h k e = absurd (omega arith)
parity (suc (suc x)) y h k e = absurd (omega arith)

-- A bit of half a number is the next bit of the number.
halved : (j n : ℕ) → bit j (n / 2) ≡ bit (suc j) n
halved j n = ap (λ x. eqb (x % 2) 1) (div-div-eq-div-mul n 2 (2 ^ j) ∙ ap (λ x. n / x) (sym (pow-succ' 2 j)))

-- A bit put below a number is the lowest of what they make, and the others are the number's.
pub lowest_bit : (x : ℕ) (b : Bool) → bit 0 (2 * x + one_if b) ≡ b
lowest_bit x true = let e : (2 * x + 1) / 1 % 2 ≡ 1 = omega arith in rw e
lowest_bit x false = let e : (2 * x + 0) / 1 % 2 ≡ 0 = omega arith in rw e

pub higher_bit : (j x r : ℕ) → r ≤ 1 → bit (suc j) (2 * x + r) ≡ bit j x
higher_bit j x r h = let half : (2 * x + r) / 2 ≡ x = omega arith in sym (halved j (2 * x + r)) ∙ ap (bit j) half

-- A bit as a number is at most 1.
pub one_most : (b : Bool) → one_if b ≤ 1
one_most true = omega arith
one_most false = omega arith

-- Numbers of k bits are the same if their bits are.
pub same_bits : (k b c : ℕ) → b < 2 ^ k → c < 2 ^ k → ((j : ℕ) → j < k → bit j b ≡ bit j c) → b ≡ c
same_bits zero b c h l e = omega arith
same_bits (suc k) b c h l e =
    let double = pow-succ' 2 k in
    let low : b % 2 ≡ c % 2 = parity (b % 2) (c % 2) (omega arith) (omega arith) (rw (div-one b, div-one c) at (e 0 (omega arith))) in
    let next : (j : ℕ) → j < k → bit j (b / 2) ≡ bit j (c / 2) = λ j i. halved j b ∙ (e (suc j) (omega arith) ∙ sym (halved j c)) in
    let high : b / 2 ≡ c / 2 = same_bits k (b / 2) (c / 2) (omega arith) (omega arith) next in
    omega arith

-- Eight bytes are the same if their 64 bits are.
pub same_bytes : (l m : List ℕ) → length l ≡ 8 → length m ≡ 8 → Bytes l → Bytes m → ((p : ℕ) → p < 64 → bit_at l p ≡ bit_at m p) → l ≡ m
same_bytes l m h k small small' e =
    ext_get_or 0 l m (h ∙ sym k) λ i b.
    same_bits 8 (get_or l i 0) (get_or m i 0) (byte_at l small i) (byte_at m small' i) λ j c.
    let byte : (i * 8 + j) / 8 ≡ i = omega arith in
    let place : (i * 8 + j) % 8 ≡ j = omega arith in
    rw (byte, place) at (e (i * 8 + j) (omega arith))
