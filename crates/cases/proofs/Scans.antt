-- Tests of all or some entries of a list, and of all or some numbers below a limit, with what each says of one of them. By
-- recursion along the list, and on the limit.
use mathlib.Core.Bool.{Bool, true, false, ◌&&◌, ◌||◌, cond}
use mathlib.Core.List.{List, [], ◌∷◌, ◌++◌, map}
use mathlib.Core.Logic.{◌⊎◌, inl, inr}
use mathlib.Core.Path.{◌≡◌, refl, sym, ap₂, subst}
use Prim.Native.Nat.{ℕ, zero, suc, ◌<◌}
use native.Mathlib.Decide.{ℕ_discrete}
use native.Mathlib.Omega.{arith}
use lib.Dec.{T, eqb}
use Rattle.model.proofs.Tests.{both, equal}

-- One of two tests passes.
pub either : (a b : Bool) → T (a || b) → T a ⊎ T b
either true b t = inl tt
either false b t = inr t

module _ {A : Type 0} where
  -- The test passes at every entry ..
  abbrev pub all : (A → Bool) → List A → Bool
  all f [] = true
  all f (x ∷ xs) = f x && all f xs

  -- .. or at some entry.
  abbrev pub any : (A → Bool) → List A → Bool
  any f [] = false
  any f (x ∷ xs) = f x || any f xs

  -- The entries at which the test passes.
  abbrev pub those : (A → Bool) → List A → List A
  those f [] = []
  those f (x ∷ xs) = let rest = those f xs in cond (f x) (x ∷ rest) rest

  -- A test of two lists in a row is a test of each.
  pub all_append : (f : A → Bool) (xs ys : List A) → T (all f (xs ++ ys)) → T (all f xs) × T (all f ys)
  all_append f [] ys t = (tt, t)
  all_append f (x ∷ xs) ys t =
      let w = (both (f x) (all f (xs ++ ys))).0 t in
      let r = all_append f xs ys w.1 in
      ((both (f x) (all f xs)).1 (w.0, r.0), r.1)

  -- Some entry passes the one test, and so the other too, which all pass.
  pub pick : (f h : A → Bool) (xs : List A) → T (all f xs) → T (any h xs) → (x : A) × T (f x) × T (h x)
  pick f h [] t u = absurd u
  pick f h (x ∷ xs) t u =
      let w = (both (f x) (all f xs)).0 t in
      elim (either (h x) (any h xs) u) [ inl v ↦ (x, w.0, v) | inr v ↦ pick f h xs w.1 v ]

-- A test of images is a test of what they are images of.
pub all_map : {A B : Type 0} (f : B → Bool) (h : A → B) (xs : List A) → T (all f (map h xs)) → T (all (λ x. f (h x)) xs)
all_map f h [] t = tt
all_map f h (x ∷ xs) t =
    let w = (both (f (h x)) (all f (map h xs))).0 t in
    (both (f (h x)) (all (λ y. f (h y)) xs)).1 (w.0, all_map f h xs w.1)

-- Two lists of numbers are the same.
abbrev pub alike : List ℕ → List ℕ → Bool
alike [] [] = true
alike [] (y ∷ ys) = false
alike (x ∷ xs) [] = false
alike (x ∷ xs) (y ∷ ys) = eqb x y && alike xs ys

pub alike_same : (xs ys : List ℕ) → T (alike xs ys) → xs ≡ ys
alike_same [] [] t = refl
alike_same [] (y ∷ ys) t = absurd t
alike_same (x ∷ xs) [] t = absurd t
alike_same (x ∷ xs) (y ∷ ys) t =
    let w = (both (eqb x y) (alike xs ys)).0 t in
    ap₂ (λ z zs. z ∷ zs) ((equal x y).0 w.0) (alike_same xs ys w.1)

pub alike_refl : (xs : List ℕ) → T (alike xs xs)
alike_refl [] = tt
alike_refl (x ∷ xs) = (both (eqb x x) (alike xs xs)).1 ((equal x x).1 refl, alike_refl xs)

-- The test passes at every number below a limit ..
abbrev pub below : ℕ → (ℕ → Bool) → Bool
below zero f = true
below (suc n) f = f n && below n f

pub at_below : (n : ℕ) (f : ℕ → Bool) → T (below n f) → (p : ℕ) → p < n → T (f p)
at_below zero f t p h = absurd (omega arith)
at_below (suc n) f t p h =
    let w = (both (f n) (below n f)).0 t in
    elim (ℕ_discrete p n) [ yes e ↦ subst (λ q. T (f q)) (sym e) w.0 | no e ↦ at_below n f w.1 p (omega arith) ]

-- .. or at some number below it.
abbrev pub some : ℕ → (ℕ → Bool) → Bool
some zero f = false
some (suc n) f = f n || some n f

pub some_at : (n : ℕ) (f : ℕ → Bool) → T (some n f) → (r : ℕ) × T (f r)
some_at zero f t = absurd t
some_at (suc n) f t = elim (either (f n) (some n f) t) [ inl h ↦ (n, h) | inr h ↦ some_at n f h ]
