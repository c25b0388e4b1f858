-- A rule put into a list: it comes before what is there, behind rules below it, or to the one with its key; and what holds of all rules of
-- two lists holds of all when they are joined, by these three cases.
use mathlib.Core.List.{List, [], ◌∷◌}
use mathlib.Core.Path.{◌≡◌}
use Prim.Native.Nat.{◌<◌}
use native.Mathlib.Decide.{dec_lt}
use native.Mathlib.Omega.{arith}
use borrow.Author.Tests.{le-ltb, lt-ltb}
use Rattle.merge.specs.Union.{Entry, key_in, both, insert, join}

-- A rule is before one above it, behind one below it, and once where it is there.
module _ (x y : Entry) (ys : List Entry) where
  pub put_before : key_in x < key_in y → insert x (y ∷ ys) ≡ x ∷ y ∷ ys
  unfolding insert
  put_before h = rw (lt-ltb (key_in x) (key_in y) h)

  pub put_behind : key_in y < key_in x → insert x (y ∷ ys) ≡ y ∷ insert x ys
  unfolding insert
  put_behind h = rw (le-ltb (key_in x) (key_in y) (omega arith), lt-ltb (key_in y) (key_in x) h)

  pub put_once : key_in x ≡ key_in y → insert x (y ∷ ys) ≡ both x y ∷ ys
  unfolding insert
  put_once e = rw (le-ltb (key_in x) (key_in y) (omega arith), le-ltb (key_in y) (key_in x) (omega arith))

-- A rule put into a list: first, behind another, or to the one with its key.
pub data Put (x : Entry) : List Entry → List Entry → Type 0 where
  first : {ys : List Entry} → Put x ys (x ∷ ys)
  behind : {y : Entry} {ys zs : List Entry} → Put x ys zs → Put x (y ∷ ys) (y ∷ zs)
  once : {y : Entry} {ys : List Entry} → key_in x ≡ key_in y → Put x (y ∷ ys) (both x y ∷ ys)

-- That is how `insert` puts it.
pub puts : (x : Entry) (ys : List Entry) → Put x ys (insert x ys)
unfolding insert
puts x [] = first
puts x (y ∷ ys) =
    elim (dec_lt (key_in x) (key_in y)) [
      | yes l ↦ rw (put_before x y ys l) first
      | no l ↦ elim (dec_lt (key_in y) (key_in x)) [
        | yes k ↦ rw (put_behind x y ys k) (behind (puts x ys))
        | no k ↦ let e : key_in x ≡ key_in y = omega arith in rw (put_once x y ys e) (once e)
      ]
    ]

-- All rules of a list have a property.
pub data All (P : Entry → Type 0) : List Entry → Type 0 where
  end : All P []
  also : {e : Entry} {es : List Entry} → P e → All P es → All P (e ∷ es)

-- What holds of all rules of two lists, and of a rule that both have if it holds of it in each, holds of all when they are joined.
module _ (P : Entry → Type 0) (meet : (x y : Entry) → key_in x ≡ key_in y → P x → P y → P (both x y)) where
  pub put_all : {x : Entry} {ys zs : List Entry} → Put x ys zs → P x → All P ys → All P zs
  put_all first p a = also p a
  put_all (behind s) p (also q a) = also q (put_all s p a)
  put_all (once e) p (also q a) = also (meet _ _ e p q) a

  pub join_all : (xs ys : List Entry) → All P xs → All P ys → All P (join xs ys)
  unfolding join
  join_all [] ys end b = b
  join_all (x ∷ xs) ys (also p a) b = put_all (puts x (join xs ys)) p (join_all xs ys a b)
