-- A rule that a test shows at every entry of a table: the test is computed once over the whole table.
use mathlib.Core.Bool.{Bool, true, ◌&&◌}
use mathlib.Core.List.{List, [], ◌∷◌}
use Prim.Native.Nat.{ℕ, zero, suc, ◌<◌}
use native.Mathlib.Nat.{le_of_suc-le-suc, not-suc-le-zero}
use lib.Dec.{T}
use lib.ListN.{length, get_or}
use Rattle.model.proofs.Tests.{both}

module _ {A : Type 0} where
  -- The test passes at each entry of a list and its place, counted from 0.
  abbrev pub every : (ℕ → A → Bool) → List A → Bool
  every f [] = true
  every f (x ∷ xs) = f 0 x && every (λ i. f (suc i)) xs

  -- A test that passes at every entry passes at each.
  pub at : (f : ℕ → A → Bool) (xs : List A) → T (every f xs) → (k : ℕ) (d : A) → k < length xs → T (f k (get_or xs k d))
  at f [] t k d h = absurd (not-suc-le-zero h)
  at f (x ∷ xs) t zero d h = ((both (f 0 x) (every (λ i. f (suc i)) xs)).0 t).0
  at f (x ∷ xs) t (suc k) d h = at (λ i. f (suc i)) xs ((both (f 0 x) (every (λ i. f (suc i)) xs)).0 t).1 k d (le_of_suc-le-suc h)
