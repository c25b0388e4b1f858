-- Keys compare as what rules are ordered by: a digit decides unless it is the same, and then those after it do, since together they come to
-- less than one of it. So rules with one key are the same.
use mathlib.Core.Bool.{Bool, ◌&&◌, ◌||◌}
use mathlib.Core.Path.{◌≡◌, refl, ap, ◌∙◌}
use Prim.Native.Nat.{ℕ, ◌+◌, ◌*◌, ◌≤◌, ◌<◌}
use native.Mathlib.Decide.{dec_lt}
use native.Mathlib.Omega.{arith}
use lib.Dec.{ltb, eqb}
use borrow.Author.Tests.{le-ltb, lt-ltb, eq-eqb, ne_eqb}
use Rattle.model.specs.declared.Right.{Right}
use Rattle.model.specs.declared.Right.TheVariants.{Remove, Swap, Push}
use Rattle.model.specs.declared.Rule.{Rule}
use Rattle.model.specs.declared.Symbol.{Symbol}
use Rattle.model.specs.Fits.{RightFits, RuleFits}
use Rattle.model.specs.Order.{right_key, key_of, new_of, ordered_by, precedes}

-- One digit of two numbers, x and y, and the test of what comes after it.
digit : (x y m n : ℕ) {rest : Bool} → (x < y → m < n) → (y < x → n < m) → (x ≡ y → ltb m n ≡ rest)
    → ltb m n ≡ (ltb x y || (eqb x y && rest))
digit x y m n up down same = elim (dec_lt x y) [
  | yes h ↦ rw (lt-ltb x y h, lt-ltb m n (up h))
  | no h ↦ elim (dec_lt y x) [
    | yes k ↦ let less = down k in rw (le-ltb x y (omega arith), ne_eqb x y (λ e. omega arith), le-ltb m n (omega arith))
    | no k ↦ let e : x ≡ y = omega arith in rw (le-ltb x y (omega arith), eq-eqb x y e) (same e)
  ]
]

-- The last three digits.
right_small : (x : Right) → RightFits x → right_key x < 4096
unfolding right_key
right_small Remove f = omega arith
right_small (Swap a) f = omega arith
right_small (Push a b) f = omega (arith, f.0, f.1)

right_order : (x y : Right) → RightFits x → RightFits y → ltb (right_key x) (right_key y) ≡ precedes (new_of x) (new_of y)
unfolding right_key precedes
right_order Remove Remove f h = refl
right_order Remove (Swap c) f h = lt-ltb 0 (256 + c.0 * 16) (omega arith)
right_order Remove (Push c d) f h = lt-ltb 0 (512 + c.0 * 16 + d.0) (omega arith)
right_order (Swap a) Remove f h = le-ltb (256 + a.0 * 16) 0 (omega arith)
right_order (Swap a) (Swap c) f h =
    digit a.0 c.0 (256 + a.0 * 16) (256 + c.0 * 16) (λ l. omega arith) (λ l. omega arith) (λ e. le-ltb (256 + a.0 * 16) (256 + c.0 * 16) (omega arith))
right_order (Swap a) (Push c d) f h = lt-ltb (256 + a.0 * 16) (512 + c.0 * 16 + d.0) (omega arith)
right_order (Push a b) Remove f h = le-ltb (512 + a.0 * 16 + b.0) 0 (omega arith)
right_order (Push a b) (Swap c) f h = le-ltb (512 + a.0 * 16 + b.0) (256 + c.0 * 16) (omega (arith, f.0, f.1, h))
right_order (Push a b) (Push c d) f h =
    let m : ℕ = 512 + a.0 * 16 + b.0 in
    let n : ℕ = 512 + c.0 * 16 + d.0 in
    digit a.0 c.0 m n (λ l. omega (arith, f.1)) (λ l. omega (arith, h.1)) λ e₁.
    digit b.0 d.0 m n (λ l. omega arith) (λ l. omega arith) λ e₂. le-ltb m n (omega arith)

-- Tests of numbers that compare alike.
alike : (m n p q : ℕ) → (p < q → m < n) → (q ≤ p → n ≤ m) → ltb m n ≡ ltb p q
alike m n p q up down = elim (dec_lt p q) [ yes h ↦ rw (lt-ltb p q h, lt-ltb m n (up h)) | no h ↦ rw (le-ltb p q (omega arith), le-ltb m n (down (omega arith))) ]

-- The key, digit by digit.
pub key_order : (g : ℕ) (x y : Rule) → g ≤ 16 → RuleFits g x → RuleFits g y
    → ltb (key_of x) (key_of y) ≡ precedes (ordered_by x) (ordered_by y)
unfolding key_of precedes
key_order g x y h f k =
    let low_x = right_small x.right f.symbols in
    let low_y = right_small y.right k.symbols in
    digit x.before.0 y.before.0 (key_of x) (key_of y) (λ l. omega (arith, f.top, f.next)) (λ l. omega (arith, k.top, k.next)) λ e₁.
    digit x.symbol.0 y.symbol.0 (key_of x) (key_of y) (λ l. omega (arith, f.next)) (λ l. omega (arith, k.next)) λ e₂.
    digit x.after.0 y.after.0 (key_of x) (key_of y) (λ l. omega arith) (λ l. omega arith) λ e₃.
    rw (← right_order x.right y.right f.symbols k.symbols)
    (alike (key_of x) (key_of y) (right_key x.right) (right_key y.right) (λ l. omega arith) (λ l. omega arith))

-- A symbol and a rule by their numbers, of which they are made.
abbrev symbol_of : ℕ → Symbol
symbol_of n = record { 0 = n }

abbrev rule_of : ℕ → ℕ → ℕ → Right → Rule
rule_of p s q r = record { before = record { 0 = p }; symbol = symbol_of s; after = record { 0 = q }; right = r }

-- Right sides in range with one key are the same ..
one_right : (x y : Right) → RightFits x → RightFits y → right_key x ≡ right_key y → x ≡ y
unfolding right_key
one_right Remove Remove f h e = refl
one_right Remove (Swap c) f h e = absurd (omega arith)
one_right Remove (Push c d) f h e = absurd (omega arith)
one_right (Swap a) Remove f h e = absurd (omega arith)
one_right (Swap a) (Swap c) f h e = ap (λ n. Swap (symbol_of n)) (omega arith)
one_right (Swap a) (Push c d) f h e = absurd (omega arith)
one_right (Push a b) Remove f h e = absurd (omega arith)
one_right (Push a b) (Swap c) f h e = absurd (omega (arith, f.0, f.1, h))
one_right (Push a b) (Push c d) f h e =
    let first : a.0 ≡ c.0 = omega (arith, f.1, h.1) in
    let second : b.0 ≡ d.0 = omega arith in
    ap (λ n. Push (symbol_of n) b) first ∙ ap (λ n. Push c (symbol_of n)) second

-- .. and so are rules.
pub one_key : (g : ℕ) (x y : Rule) → g ≤ 16 → RuleFits g x → RuleFits g y → key_of x ≡ key_of y → x ≡ y
unfolding key_of
one_key g x y h f k e =
    let low_x = right_small x.right f.symbols in
    let low_y = right_small y.right k.symbols in
    let before : x.before.0 ≡ y.before.0 = omega arith in
    let symbol : x.symbol.0 ≡ y.symbol.0 = omega arith in
    let after : x.after.0 ≡ y.after.0 = omega arith in
    let right = one_right x.right y.right f.symbols k.symbols (omega arith) in
    let same : rule_of x.before.0 x.symbol.0 x.after.0 x.right ≡ rule_of y.before.0 y.symbol.0 y.after.0 y.right =
    rw (before, symbol, after, right) in
    same
