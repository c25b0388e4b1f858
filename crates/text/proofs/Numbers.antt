-- How many digits a number has: at least one, and no more than a power of ten that it is below, by taking off the last digit.
use mathlib.Core.Bool.{Bool, true, false, cond}
use mathlib.Core.List.{List}
use mathlib.Core.Path.{◌≡◌, refl}
use Prim.Native.Nat.{ℕ, zero, suc, ◌+◌, ◌*◌, ◌/◌, ◌^◌, ◌≤◌, ◌<◌}
use native.Mathlib.Nat.{one-le-pow, pow-zero, pow-succ'}
use native.Mathlib.Omega.{arith}
use lib.Dec.{ltb}
use lib.ListN.{length, length-append}
use borrow.Author.Tests.{ltb-true, ltb-false}
use Rattle.text.specs.Text.{decimal_in, decimal, line}

-- What both arms of a test have.
either : (P : List ℕ → Type 0) (b : Bool) {x y : List ℕ} → (b ≡ true → P x) → (b ≡ false → P y) → P (cond b x y)
either P true t f = t refl
either P false t f = f refl

-- Every number has a digit.
pub some_digit : (n : ℕ) → 0 < length (decimal n)
unfolding decimal_in
some_digit n = either (λ l. 0 < length l) (ltb n 10) (λ e. omega arith) (λ e. simp length-append (omega arith))

-- A number below a power of ten has no more digits.
few : (places w n : ℕ) → n < 10 ^ suc w → length (decimal_in places n) ≤ suc w
unfolding decimal_in
few zero w n h = omega arith
few (suc places) zero n h =
    either (λ l. length l ≤ 1) (ltb n 10) (λ e. omega arith)
    (λ e. absurd (omega (arith, ltb-false n 10 e, pow-succ' 10 0, pow-zero 10)))
few (suc places) (suc w) n h =
    let less : n < 10 * 10 ^ suc w = rw (← pow-succ') h in
    let rest = few places w (n / 10) (omega arith) in
    either (λ l. length l ≤ suc (suc w)) (ltb n 10) (λ e. omega arith) (λ e. simp length-append (omega arith))

-- A number that is not has more.
many : (places w n : ℕ) → n < places → 10 ^ w ≤ n → suc w ≤ length (decimal_in places n)
unfolding decimal_in
many zero w n p h = absurd (omega arith)
many (suc places) zero n p h =
    either (λ l. 1 ≤ length l) (ltb n 10) (λ e. omega arith) (λ e. simp length-append (omega arith))
many (suc places) (suc w) n p h =
    let more : 10 * 10 ^ w ≤ n = rw (← pow-succ') h in
    let some : 1 ≤ 10 ^ w = one-le-pow w 10 (omega arith) in
    let rest = many places w (n / 10) (omega arith) (omega arith) in
    either (λ l. suc (suc w) ≤ length l) (ltb n 10) (λ e. absurd (omega (arith, ltb-true n 10 e)))
    (λ e. simp length-append (omega arith))

-- So the power of ten that it reaches tells how many.
pub digits : (w n : ℕ) → 10 ^ w ≤ n → n < 10 * 10 ^ w → w + 1 ≡ length (decimal n)
digits w n h k =
    let low = many (suc n) w n (omega arith) h in
    let high = few (suc n) w n (rw pow-succ' k) in
    omega arith

pub digits_1 : (n : ℕ) → n < 10 → length (decimal n) ≤ 1
digits_1 n h = few (suc n) 0 n (omega arith)

pub digits_2 : (n : ℕ) → n < 100 → length (decimal n) ≤ 2
digits_2 n h = few (suc n) 1 n (omega arith)

pub digits_4 : (n : ℕ) → n < 10000 → length (decimal n) ≤ 4
digits_4 n h = few (suc n) 3 n (omega arith)

-- A line has one byte more than its word and its number.
pub length_line : (word : List ℕ) (n : ℕ) → length (line word n) ≡ length word + length (decimal n) + 1
unfolding line
length_line word n = simp length-append (omega arith)
