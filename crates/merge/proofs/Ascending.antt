-- Two ascending lists made one: the lower of their first rules stands first, once where both have it, and what follows is the rest of both
-- made one; so the union can be had by going along both, and it ascends.
use mathlib.Core.List.{List, [], ◌∷◌}
use mathlib.Core.Path.{◌≡◌, refl}
use Prim.Native.Nat.{ℕ, zero, suc, ◌+◌, ◌≤◌, ◌<◌}
use native.Mathlib.Decide.{dec_lt}
use native.Mathlib.Omega.{arith}
use Rattle.model.specs.declared.Thread.{Thread}
use Rattle.model.specs.Fits.{ThreadFits}
use Rattle.model.specs.Order.{key_of}
use Rattle.model.specs.Rules.{rule_at}
use Rattle.merge.specs.Joining.{Listed}
use Rattle.merge.specs.Union.{Entry, key_in, both, entries_from, insert, join}
use Rattle.merge.proofs.Inserted.{put_before, put_behind, put_once, puts, All, end, also, put_all, join_all}

-- All rules of a list are above a key.
abbrev pub Above : ℕ → List Entry → Type 0
Above k = All (λ e. k < key_in e)

-- Each rule of a list is below those after it.
abbrev pub Ascends : List Entry → Type 0
Ascends [] = Unit {0}
Ascends (x ∷ xs) = Above (key_in x) xs × Ascends xs

-- What is above a key is above a lower one.
above_lower : {k l : ℕ} → k ≤ l → (xs : List Entry) → Above l xs → Above k xs
above_lower h [] end = end
above_lower h (x ∷ xs) (also p a) = also {e = x} (omega arith) (above_lower h xs a)

-- A rule stands first where all are above it.
put_first : (x : Entry) (ys : List Entry) → Above (key_in x) ys → insert x ys ≡ x ∷ ys
unfolding insert
put_first x [] end = refl
put_first x (y ∷ ys) (also p a) = put_before x y ys p

-- What is above a key stays above it.
join_above : (k : ℕ) (xs ys : List Entry) → Above k xs → Above k ys → Above k (join xs ys)
join_above k = join_all (λ e. k < key_in e) (λ x y e p q. p)

-- An ascending list with a rule put in ascends ..
insert_ascends : (x : Entry) (ys : List Entry) → Ascends ys → Ascends (insert x ys)
unfolding insert
insert_ascends x [] s = (end, tt)
insert_ascends x (y ∷ ys) s =
    elim (dec_lt (key_in x) (key_in y)) [
      | yes l ↦ rw (put_before x y ys l) (also l (above_lower (omega arith) ys s.0), s)
      | no l ↦ elim (dec_lt (key_in y) (key_in x)) [
        | yes j ↦
            rw (put_behind x y ys j)
            (put_all (λ e. key_in y < key_in e) (λ u v e p q. p) (puts x ys) j s.0, insert_ascends x ys s.1)
        | no j ↦ rw (put_once x y ys (omega arith)) (above_lower (omega arith) ys s.0, s.1)
      ]
    ]

-- .. and so does one with all of another.
pub join_ascends : (xs ys : List Entry) → Ascends ys → Ascends (join xs ys)
unfolding join
join_ascends [] ys s = s
join_ascends (x ∷ xs) ys s = insert_ascends x (join xs ys) (join_ascends xs ys s)

-- Of two ascending lists the first of the one is taken where it is the lowest ..
pub takes_left : (x : Entry) (xs ys : List Entry) → Above (key_in x) xs → Above (key_in x) ys → join (x ∷ xs) ys ≡ x ∷ join xs ys
unfolding join
takes_left x xs ys a b = put_first x (join xs ys) (join_above (key_in x) xs ys a b)

-- .. the first of the other where that is ..
pub takes_right : (xs : List Entry) (y : Entry) (ys : List Entry) → Above (key_in y) xs → join xs (y ∷ ys) ≡ y ∷ join xs ys
unfolding join
takes_right [] y ys end = refl
takes_right (x ∷ xs) y ys (also p a) = rw (takes_right xs y ys a) (put_behind x y (join xs ys) p)

-- .. and both at once where they are the same rule.
pub takes_both : (x : Entry) (xs : List Entry) (y : Entry) (ys : List Entry) → key_in x ≡ key_in y → Above (key_in x) xs
    → join (x ∷ xs) (y ∷ ys) ≡ both x y ∷ join xs ys
unfolding join
takes_both x xs y ys e a = rw (takes_right xs y ys (above_lower (omega arith) xs a)) (put_once x y (join xs ys) e)

-- A thread in range is in order.
pub listed : {g : ℕ} {t : Thread} → ThreadFits g t → Listed t
listed f = record { most = f.count; order = f.order }

module _ (t : Thread) (h : Listed t) where
  -- The rules of a thread from a number on are above the key of the one before ..
  pub entries_above : (k r n : ℕ) → r + n ≤ t.count → (r < t.count → k < key_of (rule_at t r)) → Above k (entries_from t r n)
  unfolding entries_from
  entries_above k r zero b l = end
  entries_above k r (suc n) b l =
      let low = l (omega arith) in
      also low (entries_above k (suc r) n (omega arith) (λ i. let up = h.order r i in omega arith))

  -- .. and ascend.
  pub entries_ascend : (r n : ℕ) → r + n ≤ t.count → Ascends (entries_from t r n)
  unfolding entries_from
  entries_ascend r zero b = tt
  entries_ascend r (suc n) b = (entries_above _ (suc r) n (omega arith) (h.order r), entries_ascend (suc r) n (omega arith))
