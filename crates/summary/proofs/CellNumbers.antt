-- The cells of the table as numbers: a cell lies in one part of the table, and gives back its control, symbol, destination
-- and lane, since each of them is a digit.
use mathlib.Core.Bool.{cond}
use mathlib.Core.Path.{◌≡◌}
use Prim.Native.Nat.{ℕ, zero, suc, ◌+◌, ◌*◌, ◌-◌, ◌≤◌, ◌<◌, ◌/◌, ◌%◌}
use native.Mathlib.Decide.{ℕ_discrete, dec_lt}
use native.Mathlib.Omega.{arith}
use lib.Dec.{ltb}
use borrow.Author.Tests.{le-ltb, lt-ltb, ne_eqb}
use Rattle.summary.specs.Cells.{plain, lane, free_of, first, second, blank}
use Rattle.summary.specs.Table.{cap}

-- Where the parts with turn ends inside start, in a table of N controls.
abbrev pub base_of : ℕ → ℕ → ℕ
base_of N zero = first N
base_of N (suc m) = second N

-- How many lanes a destination has, by the number of turn ends inside.
abbrev pub width : ℕ → ℕ
width zero = 1
width (suc m) = 16

-- The cell of its first lane, by the number of turn ends inside.
abbrev pub start : ℕ → ℕ → ℕ → ℕ → ℕ → ℕ
start N zero p γ d = plain p γ d
start N (suc m) p γ d = lane (base_of N m) p γ d

-- A cell with an offset that stays among the destinations of its control and symbol.
pub record Offset (N m p γ d x : ℕ) : Type 0 where
  pub part : m ≤ 2
  pub control : p < N
  pub symbol : γ ≤ 16
  pub dest : d < 16
  pub offset : x < (16 - d) * width m

-- The lanes of one destination are such offsets.
pub lanes_fit : (m d : ℕ) → d < 16 → width m ≤ (16 - d) * width m
lanes_fit zero d h = omega arith
lanes_fit (suc m) d h = omega arith

-- The part of a cell.
pub part_of : ℕ → ℕ → ℕ
part_of N k = cond (ltb k (first N)) 0 (cond (ltb k (second N)) 1 2)

-- The part with no turn end inside.
pub first_part : (N k : ℕ) → k < first N → part_of N k ≡ 0
unfolding part_of
first_part N k h = rw (lt-ltb k (first N) h)

-- The part with two.
pub last_part : (N k : ℕ) → second N ≤ k → part_of N k ≡ 2
unfolding part_of
last_part N k h = rw (le-ltb k (first N) (omega arith), le-ltb k (second N) h)

-- A cell lies in its part.
pub parts : (N m p γ d x : ℕ) → Offset N m p γ d x → part_of N (start N m p γ d + x) ≡ m
unfolding part_of
parts N zero p γ d x h = first_part N (plain p γ d + x) (omega arith)
parts N (suc zero) p γ d x h =
    let k = lane (first N) p γ d + x in
    rw (le-ltb k (first N) (omega arith), lt-ltb k (second N) (omega arith))
parts N (suc (suc zero)) p γ d x h = last_part N (lane (second N) p γ d + x) (omega arith)
parts N (suc (suc (suc m))) p γ d x h = absurd (omega arith)

-- What equal cells share: control and symbol, and the offset between the destinations; within the lanes of one
-- destination also that and the lane.
pub record Alike (N m p γ d l p' γ' d' x : ℕ) : Type 0 where
  pub control : p ≡ p'
  pub symbol : γ ≡ γ'
  pub low : d' ≤ d
  pub same : (h a : ℕ) → start N m h a d + l ≡ start N m h a d' + x
  pub narrow : x < width m → (d ≡ d') × (l ≡ x)
  pub high : d * width m ≤ d' * width m + x

-- Equal cells are alike.
pub alike : (N m p γ d l p' γ' d' x : ℕ) → Offset N m p γ d l → l < width m → Offset N m p' γ' d' x
    → start N m p γ d + l ≡ start N m p' γ' d' + x → Alike N m p γ d l p' γ' d' x
alike N zero p γ d l p' γ' d' x h q r e =
    let top : p * 17 + γ ≡ p' * 17 + γ' = omega arith in
    let control : p ≡ p' = omega arith in
    omega arith
alike N (suc m) p γ d l p' γ' d' x h q r e =
    let top : p * 17 + γ ≡ p' * 17 + γ' = omega arith in
    let control : p ≡ p' = omega arith in
    omega arith

-- The cells that the table starts with.
pub blank_cell : (N k : ℕ) → blank N k ≤ cap → (k < first (free_of N)) × (k % 16 ≡ 4 + k / 272)
unfolding blank
blank_cell N k h =
    elim (dec_lt k (first (free_of N))) [
      | yes i ↦ elim (ℕ_discrete (k % 16) (4 + k / 272)) [
        | yes e ↦ (i, e)
        | no e ↦ absurd (omega (arith, rw (lt-ltb k (first (free_of N)) i, ne_eqb (k % 16) (4 + k / 272) e) at h))
      ]
      | no i ↦ absurd (omega (arith, rw (le-ltb k (first (free_of N)) (omega arith)) at h))
    ]

-- They are those of staying in place.
pub blank_dest : (p γ d k : ℕ) → γ ≤ 16 → d < 16 → plain p γ d ≡ k → k % 16 ≡ 4 + k / 272 → d ≡ 4 + p
blank_dest p γ d k h i e b =
    let q : k / 272 ≡ p = omega arith in
    let r : k % 16 ≡ d = omega arith in
    omega arith
