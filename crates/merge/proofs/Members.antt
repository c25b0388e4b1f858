-- What stands in the rules of two threads: nothing but rules of either, and each of them, held as it is where none clashes.
use mathlib.Core.Bool.{Bool, true, false, not, ◌&&◌, ◌||◌, true≢false, and-true, or-true}
use mathlib.Core.List.{List, [], ◌∷◌}
use mathlib.Core.Path.{◌≡◌, refl, subst, ◌∙◌}
use Prim.Native.Nat.{ℕ, zero, suc, ◌+◌, ◌≤◌, ◌<◌}
use native.Mathlib.Decide.{dec_lt}
use native.Mathlib.Nat.{le_antisymm}
use native.Mathlib.Omega.{arith}
use Rattle.model.specs.declared.Rule.{Rule}
use Rattle.model.specs.declared.Thread.{Thread}
use Rattle.model.specs.Order.{key_of}
use Rattle.model.specs.Rules.{rule_at, held_at}
use Rattle.merge.specs.Union.{Entry, key_in, entry_of, both, entries_from, join, union_of, clash}
use Rattle.merge.proofs.Inserted.{Put, first, behind, once, puts, All, end, also, join_all}

-- Some rule of a list has a property.
pub data Some (P : Entry → Type 0) : List Entry → Type 0 where
  here : {e : Entry} {es : List Entry} → P e → Some P (e ∷ es)
  there : {e : Entry} {es : List Entry} → Some P es → Some P (e ∷ es)

-- Whether some thread has a rule held, or free.
abbrev pub flag_of : Bool → Entry → Bool
flag_of true e = e.held
flag_of false e = e.free

-- A flag of a rule that both have is that of the one or of the other.
pub flag_both : (h : Bool) (x y : Entry) → flag_of h (both x y) ≡ flag_of h x || flag_of h y
flag_both true x y = refl
flag_both false x y = refl

-- What stands for rule r of a thread: it has its key, and is held if that is held, and free if that is free.
record StandsFor (t : Thread) (r : ℕ) (e : Entry) : Type 0 where
  key : key_in e ≡ key_of (rule_at t r)
  flag : flag_of (held_at t r) e ≡ true

-- What stands for it is there once it was put in, and whatever is put in later.
module _ {t : Thread} {r : ℕ} where
  put-new : {x : Entry} {ys zs : List Entry} → Put x ys zs → StandsFor t r x → Some (StandsFor t r) zs
  put-new first c = here c
  put-new (behind s) c = there (put-new s c)
  put-new {x} (once {y} e) c = here {e = both x y} (record { key = c.key; flag = rw (flag_both (held_at t r) x y, c.flag) })

  put_old : {x : Entry} {ys zs : List Entry} → Put x ys zs → Some (StandsFor t r) ys → Some (StandsFor t r) zs
  put_old first c = there c
  put_old (behind s) (here c) = here c
  put_old (behind s) (there c) = there (put_old s c)
  put_old {x} (once {y} e) (here c) =
      here {e = both x y} (record { key = e ∙ c.key; flag = rw (flag_both (held_at t r) x y, c.flag, or-true) })
  put_old (once e) (there c) = there c

  -- So it is there when lists are joined that have it, in the one or in the other.
  join_left : (xs ys : List Entry) → Some (StandsFor t r) xs → Some (StandsFor t r) (join xs ys)
  unfolding join
  join_left [] ys x' = elim x' [ ]
  join_left (x ∷ xs) ys (here c) = put-new (puts x (join xs ys)) c
  join_left (x ∷ xs) ys (there c) = put_old (puts x (join xs ys)) (join_left xs ys c)

  join_right : (xs ys : List Entry) → Some (StandsFor t r) ys → Some (StandsFor t r) (join xs ys)
  unfolding join
  join_right [] ys c = c
  join_right (x ∷ xs) ys c = put_old (puts x (join xs ys)) (join_right xs ys c)

-- The rules of a thread are those of its numbers: what holds of each holds of all, what holds of one holds of some ..
module _ (t : Thread) where
  entries_all : (P : Entry → Type 0) (r n : ℕ) → ((i : ℕ) → i < r + n → P (entry_of t i)) → All P (entries_from t r n)
  unfolding entries_from
  entries_all P r zero h = end
  entries_all P r (suc n) h = also (h r (omega arith)) (entries_all P (suc r) n (λ i b. h i (omega arith)))

  entries_some : (P : Entry → Type 0) (r n i : ℕ) → r ≤ i → i < r + n → P (entry_of t i) → Some P (entries_from t r n)
  unfolding entries_from
  entries_some P r zero i a b p = absurd (omega arith)
  entries_some P r (suc n) i a b p = elim (dec_lt r i) [
    | yes h ↦ there (entries_some P (suc r) n i h (omega arith) p)
    | no h ↦ here (subst (λ j. P (entry_of t j)) (le_antisymm (omega arith) a) p)
  ]

  -- .. and each stands for itself.
  own : (r : ℕ) → r < t.count → Some (StandsFor t r) (entries_from t 0 t.count)
  own r b = entries_some _ 0 t.count r (omega arith) (omega arith) (record { key = refl; flag = flagged (held_at t r) (rule_at t r) })
    where
      flagged : (h : Bool) (x : Rule) → flag_of h (record { rule = x; held = h; free = not h }) ≡ true
      flagged true x = refl
      flagged false x = refl

-- What stands for it exactly: it has its key, and is held if and only if that is.
pub record StandsAs (t : Thread) (r : ℕ) (e : Entry) : Type 0 where
  pub key : key_in e ≡ key_of (rule_at t r)
  pub held : e.held ≡ held_at t r

-- A rule that is not both held and free is held exactly if the flag that it has says so ..
as_held : (h : Bool) (e : Entry) → flag_of h e ≡ true → e.held && e.free ≡ false → e.held ≡ h
as_held true e f c = f
as_held false e f c = rw (f, and-true) at c

-- .. and where no rule clashes, none is both; so what stands for a rule stands for it exactly.
neither : (a b : Bool) → a || b ≡ false → (a ≡ false) × (b ≡ false)
neither false b c = (refl, c)
neither true b c = absurd (true≢false c)

stands_as : {t : Thread} {r : ℕ} (es : List Entry) → clash es ≡ false → Some (StandsFor t r) es → Some (StandsAs t r) es
unfolding clash
stands_as {t = t} {r = r} [] c x'' = elim x'' [ ]
stands_as {t} {r} (e ∷ es) c (here s) =
    here (record { key = s.key; held = as_held (held_at t r) e s.flag (neither (e.held && e.free) (clash es) c).0 })
stands_as (e ∷ es) c (there s) = there (stands_as es (neither (e.held && e.free) (clash es) c).1 s)

-- In the union of two threads: what holds of each rule of either, and of one that both have, holds of all ..
module _ (t u : Thread) where
  pub union_all : (P : Entry → Type 0) → ((x y : Entry) → key_in x ≡ key_in y → P x → P y → P (both x y))
      → ((r : ℕ) → r < t.count → P (entry_of t r)) → ((r : ℕ) → r < u.count → P (entry_of u r)) → All P (union_of t u)
  union_all P meet f g =
      join_all P meet _ _ (entries_all t P 0 t.count (λ i b. f i (omega arith))) (entries_all u P 0 u.count (λ i b. g i (omega arith)))

  -- .. and where no rule clashes, each rule of either stands there as it is.
  module _ (c : clash (union_of t u) ≡ false) where
    pub union_left : (r : ℕ) → r < t.count → Some (StandsAs t r) (union_of t u)
    union_left r b = stands_as (union_of t u) c (join_left _ _ (own t r b))

    pub union_right : (r : ℕ) → r < u.count → Some (StandsAs u r) (union_of t u)
    union_right r b = stands_as (union_of t u) c (join_right _ _ (own u r b))
