-- The order of lists read as facts: at the first place where two differ the lower number decides, and a list that is the same place for
-- place comes before none.
use mathlib.Core.Bool.{Bool, true, false, ◌||◌, ◌&&◌}
use mathlib.Core.List.{List, [], ◌∷◌, map}
use mathlib.Core.Logic.{◌↔◌, ◌⊎◌, inl, inr, ⊎_elim}
use mathlib.Core.Path.{◌≡◌, refl, ap}
use Prim.Native.Nat.{ℕ, ◌<◌}
use native.Mathlib.Omega.{arith}
use lib.Dec.{T, ltb, eqb}
use Rattle.model.proofs.Tests.{both, order, equal}
use Rattle.model.specs.Order.{precedes}

-- A test of two alternatives passes exactly if one of them does.
pub either : (a b : Bool) → T (a || b) ↔ (T a ⊎ T b)
either true b = (λ h. inl tt, λ h. tt)
either false b = (inr, ⊎_elim (λ h. absurd h) (λ h. h))

-- A list comes before another by its first number, or where that is the same by those after it.
pub first_decides : (x y : ℕ) (xs ys : List ℕ) → T (precedes (x ∷ xs) (y ∷ ys)) ↔ ((x < y) ⊎ ((x ≡ y) × T (precedes xs ys)))
unfolding precedes
first_decides x y xs ys =
    let test = either (ltb x y) (eqb x y && precedes xs ys) in
    let rest = both (eqb x y) (precedes xs ys) in (
      λ h. ⊎_elim (λ l. inl ((order _ _).0 l)) (λ e. let z = rest.0 e in inr ((equal _ _).0 z.0, z.1)) (test.0 h),
      ⊎_elim (λ l. test.1 (inl ((order _ _).1 l))) (λ e. test.1 (inr (rest.1 ((equal _ _).1 e.0, e.1)))),
    )

-- Where the first numbers are the same, those after them decide.
pub rest_decides : (x y : ℕ) (xs ys : List ℕ) → x ≡ y → T (precedes (x ∷ xs) (y ∷ ys)) ↔ T (precedes xs ys)
rest_decides x y xs ys e =
    let first = first_decides x y xs ys in
    (λ h. ⊎_elim (λ l. absurd (omega arith)) (λ z. z.1) (first.0 h), λ h. first.1 (inr (e, h)))

-- No list comes before itself.
pub not_before_itself : (xs : List ℕ) → T (precedes xs xs) → ⊥
unfolding precedes
not_before_itself [] h = h
not_before_itself (x ∷ xs) h = not_before_itself xs ((rest_decides x x xs xs refl).0 h)

-- Numbers that are changed by a function that rises keep their order.
pub map_keeps : (f : ℕ → ℕ) → ((x y : ℕ) → x < y → f x < f y) → (xs ys : List ℕ) → T (precedes xs ys)
    → T (precedes (map f xs) (map f ys))
unfolding precedes
map_keeps f up xs [] h = absurd h
map_keeps f up [] (y ∷ ys) h = tt
map_keeps f up (x ∷ xs) (y ∷ ys) h =
    (first_decides (f x) (f y) (map f xs) (map f ys)).1
    (⊎_elim (λ l. inl (up x y l)) (λ e. inr (ap f e.0, map_keeps f up xs ys e.1)) ((first_decides x y xs ys).0 h))
