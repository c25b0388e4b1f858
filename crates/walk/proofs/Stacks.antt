-- Stacks in buffers: a write at or above the top changes no symbol of the stack, one at its height is its new top, and the symbols of
-- the list are those below the height, counted down.
use mathlib.Core.List.{List, ◌∷◌}
use mathlib.Core.Path.{◌≡◌, refl, ap}
use Prim.Native.Nat.{ℕ, zero, suc, ◌+◌, ◌-◌, ◌<◌, ◌≤◌}
use native.Mathlib.Numerals.{add-one}
use native.Mathlib.Omega.{arith}
use lib.ListN.{length, get_or, set, length-set}
use lib.Seq.{get_or-set_same, get_or-set_other}
use Rattle.walk.specs.Stack.{top_first}

-- A write at or above the height of a stack leaves it as it is.
pub below : (n : ℕ) (l : List ℕ) (i v : ℕ) → n ≤ i → top_first n (set l i v) ≡ top_first n l
unfolding top_first
below zero l i v h = refl
below (suc n) l i v h = rw (get_or-set_other l i n v 0 (λ e. omega arith), below n l i v (omega arith))

-- A symbol written at the height of a stack is its new top.
pub on_top_lem : (n : ℕ) (l : List ℕ) (v : ℕ) → n < length l → top_first (n + 1) (set l n v) ≡ v ∷ top_first n l
unfolding top_first
on_top_lem n l v h = rw (add-one, top_first, get_or-set_same l n v 0 h, below n l n v (omega arith))

-- Two symbols, the second one on top.
pub two_on_top : (n : ℕ) (l : List ℕ) (v w : ℕ) → n + 1 < length l
    → top_first (n + 2) (set (set l n v) (n + 1) w) ≡ w ∷ v ∷ top_first n l
two_on_top n l v w h =
    let e : n + 2 ≡ n + 1 + 1 = omega arith in
    rw (e, on_top_lem (n + 1) (set l n v) w (simp length-set (omega arith)), on_top_lem n l v (omega arith))

-- A stack that is not empty: its top is the symbol below its height.
pub split_top : (n : ℕ) (l : List ℕ) (m : ℕ) → m + 1 ≡ n → top_first n l ≡ get_or l m 0 ∷ top_first m l
unfolding top_first
split_top n l m e = rw (← e, add-one)

-- A stack has as many symbols as its height.
pub length_top : (n : ℕ) (l : List ℕ) → length (top_first n l) ≡ n
unfolding top_first
length_top zero l = refl
length_top (suc n) l = ap suc (length_top n l)

-- The symbol i places below the top.
pub from_top : (n : ℕ) (l : List ℕ) (i : ℕ) → i < n → get_or (top_first n l) i 0 ≡ get_or l (n - 1 - i) 0
unfolding top_first
from_top zero l i h = absurd (omega arith)
from_top (suc n) l zero h = let e : n ≡ suc n - 1 - 0 = omega arith in rw (← e)
from_top (suc n) l (suc i) h =
    let e : n - 1 - i ≡ suc n - 1 - suc i = omega arith in
    rw (from_top n l i (omega arith), e)
