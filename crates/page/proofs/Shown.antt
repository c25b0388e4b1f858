-- The topmost symbols of a stack: those that are shown, one after another, are the front of the stack, and blanks fill its columns.
use mathlib.Core.List.{List, [], ◌∷◌, ◌++◌, map}
use mathlib.Core.Path.{◌≡◌, refl}
use Prim.Native.Nat.{ℕ, zero, suc, ◌+◌, ◌-◌, ◌≤◌, ◌<◌, min}
use native.Mathlib.Nat.{min-zero, min_comm, suc-min-suc}
use native.Mathlib.Omega.{arith}
use lib.ListN.{length, take, get_or, length-map, length-take}
use lib.Seq.{length-take-le}
use Rattle.text.specs.Text.{blanks, left_aligned}
use Rattle.walk.specs.Stack.{top_first}
use Rattle.walk.proofs.Stacks.{length_top, from_top}
use Rattle.page.specs.Page.{hex_digit, stack_columns}

-- So many symbols have as many digits.
pub length_digits : (n d : ℕ) (l : List ℕ) → n ≤ d → length (map hex_digit (take n (top_first d l))) ≡ n
length_digits n d l h = simp length-map (length-take-le n (top_first d l) (rw (length_top d l) h))

-- One symbol more.
one_more : (f : ℕ → ℕ) (w : List ℕ) (i : ℕ) → i < length w
    → map f (take (i + 1) w) ≡ map f (take i w) ++ (f (get_or w i 0) ∷ [])
one_more f [] i h = absurd (omega arith)
one_more f (x ∷ w) zero h = refl
one_more f (x ∷ w) (suc i) h =
    let e : suc i + 1 ≡ suc (i + 1) = omega arith in
    rw (e, one_more f w i (omega arith))

-- The digit of the next symbol follows those that stand.
pub symbol_next : (d : ℕ) (stack : List ℕ) (i v : ℕ) → i < d → v ≡ hex_digit (get_or stack (d - 1 - i) 0)
    → map hex_digit (take (i + 1) (top_first d stack)) ≡ map hex_digit (take i (top_first d stack)) ++ (v ∷ [])
symbol_next d stack i v h e =
    rw (one_more hex_digit (top_first d stack) i (rw (length_top d stack) h), from_top d stack i h, ← e)

-- No more can be taken than there are.
take_least : (n : ℕ) (w : List ℕ) → take (min n (length w)) w ≡ take n w
take_least zero w = rw (min_comm 0 (length w), min-zero (length w))
take_least (suc n) [] = rw (min-zero (suc n))
take_least (suc n) (x ∷ w) = rw (suc-min-suc n (length w), take_least n w)

-- The shown symbols and the blanks behind them are the columns of the stack.
pub stack_shown : (d : ℕ) (l : List ℕ)
    → stack_columns (top_first d l) ≡ map hex_digit (take (min 28 d) (top_first d l)) ++ blanks (28 - min 28 d)
unfolding stack_columns left_aligned
stack_shown d l =
    let size : length (map hex_digit (take 28 (top_first d l))) ≡ min 28 d =
    simp (length-map, length-take, length_top) in
    let front : take (min 28 d) (top_first d l) ≡ take 28 (top_first d l) =
    rw (length_top d l) at (take_least 28 (top_first d l)) in
    rw (size, front)
