-- Members and order of lists that are put one behind the other: a member of them stands in one of them, and they ascend together where each
-- ascends and all of one come before all of the next.
use mathlib.Core.Bool.{Bool, true, false, cond, true≢false, false≢true}
use mathlib.Core.List.{List, [], ◌∷◌, ◌++◌}
use mathlib.Core.Logic.{◌↔◌, ◌⊎◌, inl, inr, ⊎_elim}
use mathlib.Core.Path.{◌≡◌, refl}
use Prim.Native.Nat.{ℕ, zero, suc, ◌<◌}
use native.Mathlib.Decide.{dec_lt}
use native.Mathlib.Omega.{arith}
use lib.Dec.{T}
use Rattle.model.specs.Order.{precedes}
use Rattle.sequential.specs.Listed.{Member, here, there, below, only_if, ordered_by, Ascends}
use Rattle.sequential.specs.System.{StackRule}

module _ {X : Type 0} where
  -- A member of a list is its first or stands behind it.
  pub member_cons : {x y : X} {l : List X} → Member x (y ∷ l) → (x ≡ y) ⊎ Member x l
  member_cons here = inl refl
  member_cons (there p) = inr p

  -- A member of one of two lists, by a test, stands in the one that the test picks.
  pub member_cond : (b : Bool) (x : X) (xs ys : List X)
      → Member x (cond b xs ys) ↔ (((b ≡ true) × Member x xs) ⊎ ((b ≡ false) × Member x ys))
  member_cond true x xs ys = (λ p. inl (refl, p), ⊎_elim (λ p. p.1) (λ p. absurd (true≢false p.0)))
  member_cond false x xs ys = (λ p. inr (refl, p), ⊎_elim (λ p. absurd (false≢true p.0)) (λ p. p.1))

  -- A member of two lists stands in the first or in the second ..
  pub member_append : (x : X) (xs ys : List X) → Member x (xs ++ ys) ↔ (Member x xs ⊎ Member x ys)
  member_append x xs ys = (parts xs, whole xs)
    where
      parts : (xs : List X) → Member x (xs ++ ys) → Member x xs ⊎ Member x ys
      parts [] p = inr p
      parts (z ∷ xs) here = inl here
      parts (z ∷ xs) (there p) = ⊎_elim (λ q. inl (there q)) inr (parts xs p)

      whole : (xs : List X) → Member x xs ⊎ Member x ys → Member x (xs ++ ys)
      whole [] (inl p) = elim p [ ]
      whole [] (inr p) = p
      whole (z ∷ xs) (inl here) = here
      whole (z ∷ xs) (inl (there p)) = there (whole xs (inl p))
      whole (z ∷ xs) (inr p) = there (whole xs (inr p))

  -- .. and a member of the lists for the numbers below n stands in the list for one of them.
  pub member_below : (f : ℕ → List X) (n : ℕ) (x : X) → Member x (below f n) ↔ ((i : ℕ) × (i < n) × Member x (f i))
  unfolding below
  member_below f zero x = (λ p. elim p [ ], λ p. absurd (omega (arith, p.1)))
  member_below f (suc n) x =
      let two = member_append x (below f n) (f n) in
      let rest = member_below f n x in (
        λ p. ⊎_elim (λ q. let z = rest.0 q in (z.0, omega (arith, z.1), z.2)) (λ q. (n, omega arith, q)) (two.0 p),
        λ p. elim (dec_lt p.0 n) [
          | yes h ↦ two.1 (inl (rest.1 (p.0, h, p.2)))
          | no h ↦ let e : p.0 ≡ n = omega (arith, p.1) in two.1 (inr (rw e at p.2))
        ],
      )

-- A rule that is listed where a test holds is there exactly if it holds.
pub member_only : (test : Bool) (r s : StackRule) → Member s (only_if test r) ↔ (T test × (s ≡ r))
member_only true r s = (λ p. (tt, ⊎_elim (λ e. e) (λ q. elim q [ ]) (member_cons p)), λ p. rw p.1 here)
member_only false r s = (λ p. elim p [ ], λ p. absurd p.0)

-- A rule comes before another.
abbrev pub Before : StackRule → StackRule → Type 0
Before r s = T (precedes (ordered_by r) (ordered_by s))

-- A single rule ascends, and so does none.
pub ascends_only : (test : Bool) (r : StackRule) → Ascends (only_if test r)
ascends_only true r = (λ s p. elim p [ ], tt)
ascends_only false r = tt

-- The list that a test picks ascends where each one does that it may pick.
pub ascends_cond : (b : Bool) (xs ys : List StackRule) → (b ≡ true → Ascends xs) → (b ≡ false → Ascends ys) → Ascends (cond b xs ys)
ascends_cond true xs ys h k = h refl
ascends_cond false xs ys h k = k refl

-- Two lists ascend, one behind the other ..
pub ascends_append : (xs ys : List StackRule) → Ascends xs → Ascends ys
    → ((r s : StackRule) → Member r xs → Member s ys → Before r s) → Ascends (xs ++ ys)
ascends_append [] ys a b h = b
ascends_append (x ∷ xs) ys a b h = (
  λ s p. ⊎_elim (λ q. a.0 s q) (λ q. h x s here q) ((member_append s xs ys).0 p),
  ascends_append xs ys a.1 b (λ r s p q. h r s (there p) q),
)

-- .. and so do the lists for the numbers below n.
pub ascends_below : (f : ℕ → List StackRule) (n : ℕ) → ((i : ℕ) → i < n → Ascends (f i))
    → ((i j : ℕ) → i < j → j < n → (r s : StackRule) → Member r (f i) → Member s (f j) → Before r s) → Ascends (below f n)
unfolding below
ascends_below f zero each between = tt
ascends_below f (suc n) each between =
    let first = ascends_below f n (λ i h. each i (omega arith)) (λ i j h k. between i j h (omega arith)) in
    ascends_append (below f n) (f n) first (each n (omega arith)) λ r s p q.
    let z = (member_below f n r).0 p in
    between z.0 n z.1 (omega arith) r s z.2 q

-- What stands before a place of a list that ascends comes before what is there, and that comes before what stands behind it.
pub ascends_split : (xs ys : List StackRule) (r : StackRule) → Ascends (xs ++ (r ∷ ys))
    → ((s : StackRule) → Member s xs → Before s r) × ((s : StackRule) → Member s ys → Before r s)
ascends_split [] ys r a = (λ s p. elim p [ ], a.0)
ascends_split (x ∷ xs) ys r a =
    let rest = ascends_split xs ys r a.1 in
    let first = a.0 r ((member_append r xs (r ∷ ys)).1 (inr here)) in
    (λ s p. ⊎_elim (λ e. rw e first) (rest.0 s) (member_cons p), rest.1)
