-- `line_bits` meets its contract: one test, computed over the whole table, holds each entry to its sum of powers.
use mathlib.Core.Bool.{Bool, ◌&&◌}
use mathlib.Core.List.{List, [], ◌∷◌}
use mathlib.Core.Path.{◌≡◌}
use Prim.Native.Nat.{ℕ, zero, suc, ◌-◌, ◌≤◌}
use native.Mathlib.Nat.{not-suc-le-zero}
use native.Mathlib.Numerals.{sub-one}
use native.Mathlib.Omega.{arith}
use lib.Dec.{T, eqb, eqb→eq}
use lib.ListN.{length, get_or}
use Rattle.model.specs.Lines.{powers, bits, table_bits}
use Rattle.model.proofs.Table.{every, at}
use Rattle.model.proofs.Tests.{both, decided}
use Rattle.model.proofs.line_bits.Goals as goal

-- The table as it stands in the source.
table : List (List ℕ)
table = (2 ∷ 4 ∷ 6 ∷ []) ∷ (6 ∷ 30 ∷ 126 ∷ []) ∷ (12 ∷ 120 ∷ 1092 ∷ []) ∷ (20 ∷ 340 ∷ 5460 ∷ []) ∷ []

-- The tests of an entry and of a row.
right : ℕ → ℕ → ℕ → Bool
right i j x = eqb x (bits (suc i) (suc j))

row_right : ℕ → List ℕ → Bool
row_right i row = eqb (length row) 3 && every (right i) row

-- Every entry is its sum of powers.
all_right : T (every row_right table)
unfolding table right row_right powers
all_right = tt

-- So is the entry that a G and a K in range look up.
entry : (g k : ℕ) → 1 ≤ g → g ≤ 4 → 1 ≤ k → k ≤ 3 → get_or (get_or table (g - 1) []) (k - 1) 0 ≡ bits g k
unfolding table right row_right
entry zero k p q r s = absurd (not-suc-le-zero p)
entry (suc i) zero p q r s = absurd (not-suc-le-zero r)
entry (suc i) (suc j) p q r s =
    let row : List ℕ = get_or table i [] in
    let test = (both (eqb (length row) 3) (every (right i) row)).0 (at row_right table all_right i [] q) in
    let size : length row ≡ 3 = eqb→eq (length row) 3 test.0 in
    rw (sub-one, sub-one) (eqb→eq (get_or row j 0) (bits (suc i) (suc j)) (at (right i) row test.1 j 0 (omega arith)))

pub returns-then-g-lt1 : goal.returns-then-g-lt1
unfolding table_bits
returns-then-g-lt1 c = search decided

pub returns : goal.returns
unfolding table_bits table
returns c = search (decided, entry)
