-- A number in columns: what stands before its last digit is the number without that digit, in one column fewer.
use mathlib.Core.List.{List, [], ◌∷◌, ◌++◌, append_assoc}
use mathlib.Core.Path.{◌≡◌, refl}
use Prim.Native.Nat.{ℕ, zero, suc, ◌+◌, ◌-◌, ◌/◌, ◌%◌, ◌≤◌, ◌<◌}
use native.Mathlib.Omega.{arith}
use lib.ListN.{length, length-append, length-replicate}
use borrow.Author.Tests.{lt-ltb, le-ltb}
use Rattle.text.proofs.Numbers.{some_digit}
use Rattle.text.specs.Text.{decimal_in, decimal, blanks, right_aligned, left_aligned}

-- A number of one digit ..
pub decimal_one : (n : ℕ) → n < 10 → decimal n ≡ (48 + n) ∷ []
unfolding decimal_in
decimal_one n h = rw (lt-ltb n 10 h)

-- Any places that are enough give the same digits.
enough : (p q n : ℕ) → n < p → n < q → decimal_in p n ≡ decimal_in q n
unfolding decimal_in
enough zero q n h k = absurd (omega arith)
enough (suc p) zero n h k = absurd (omega arith)
enough (suc p) (suc q) zero h k = refl
enough (suc p) (suc q) (suc n) h k = rw (enough p q (suc n / 10) (omega arith) (omega arith))

-- .. and one of more: the last follows those of its tenth.
pub decimal_more : (n : ℕ) → 10 ≤ n → decimal n ≡ decimal (n / 10) ++ ((48 + n % 10) ∷ [])
unfolding decimal_in
decimal_more n h = rw (le-ltb n 10 h, enough n (suc (n / 10)) (n / 10) (omega arith) (omega arith))

-- Right-aligned, a digit alone has blanks before it ..
pub right_one : (w n : ℕ) → n < 10 → right_aligned w (decimal n) ≡ blanks (w - 1) ++ ((48 + n) ∷ [])
unfolding right_aligned
right_one w n h = rw (decimal_one n h)

-- .. and the last of several the others.
pub right_more : (w n : ℕ) → 10 ≤ n
    → right_aligned w (decimal n) ≡ right_aligned (w - 1) (decimal (n / 10)) ++ ((48 + n % 10) ∷ [])
unfolding right_aligned
right_more w n h =
    let less : w - (length (decimal (n / 10)) + 1) ≡ (w - 1) - length (decimal (n / 10)) = omega arith in
    rw (decimal_more n h, length-append, less, append_assoc)

-- The others are one fewer.
pub one_fewer : (n : ℕ) → 10 ≤ n → length (decimal n) ≡ length (decimal (n / 10)) + 1
one_fewer n h = rw (decimal_more n h) (simp length-append)

-- In just its own columns a number has no blanks before it.
pub right_own : (n : ℕ) → right_aligned (length (decimal n)) (decimal n) ≡ decimal n
unfolding right_aligned
right_own n = let none : length (decimal n) - length (decimal n) ≡ 0 = omega arith in rw none

-- What fits in its columns takes just those.
pub length_right : (w : ℕ) (l : List ℕ) → length l ≤ w → length (right_aligned w l) ≡ w
unfolding right_aligned
length_right w l h = simp (length-append, length-replicate) (omega arith)

pub length_left : (w : ℕ) (l : List ℕ) → length l ≤ w → length (left_aligned w l) ≡ w
unfolding left_aligned
length_left w l h = simp (length-append, length-replicate) (omega arith)

-- What the room for a number in columns follows from.
pub ruleset columns = (some_digit, one_fewer, length_right, length-replicate, length-append)
