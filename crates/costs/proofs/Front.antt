-- A list written value by value from the front: each value passed is good for its place, and the others are the old ones.
use mathlib.Core.List.{List}
use mathlib.Core.Path.{◌≡◌, refl, ◌∙◌}
use Prim.Native.Nat.{ℕ, ◌+◌, ◌≤◌, ◌<◌}
use native.Mathlib.Omega.{arith}
use borrow.Author.Count.{below_more}
use lib.ListN.{length, get_or, set, length-set}
use lib.Seq.{get_or-set_same, get_or-set_other}

-- The values below k are good, and the others the old ones.
pub record Front (Good : ℕ → ℕ → Type 0) (k : ℕ) (old new : List ℕ) : Type 0 where
  pub size : length new ≡ length old
  pub below : (v : ℕ) → v < k → Good v (get_or new v 0)
  pub above : (v : ℕ) → k ≤ v → get_or new v 0 ≡ get_or old v 0

-- At the start nothing is written.
pub front_start : (Good : ℕ → ℕ → Type 0) (old : List ℕ) → Front Good 0 old old
front_start Good old = record { size = refl; below = λ v h. absurd (omega arith); above = λ v h. refl }

-- One value more is written.
pub front_next : {Good : ℕ → ℕ → Type 0} {k x : ℕ} {old new : List ℕ} → Front Good k old new → k < length new → Good k x
    → Front Good (k + 1) old (set new k x)
front_next {Good} {k} {x} {old} {new} r room e =
    record {
      size = length-set new k x ∙ r.size;
      below =
          below_more (λ i. Good i (get_or (set new k x) i 0)) k
          (λ i l. rw (get_or-set_other new k i x 0 (λ s. omega arith)) (r.below i l))
          (rw (get_or-set_same new k x 0 room) e);
      above = λ v l. get_or-set_other new k v x 0 (λ s. omega arith) ∙ r.above v (omega arith);
    }
