-- Going along two ascending lists: the rule that stands first of those still to come is the lower of the two next ones, since all behind it
-- are above it.
use mathlib.Core.Bool.{Bool, true, false, ◌&&◌}
use mathlib.Core.List.{List, []}
use mathlib.Core.Path.{◌≡◌, refl}
use Prim.Native.Nat.{ℕ, suc, ◌+◌, ◌-◌, ◌≤◌, ◌<◌}
use native.Mathlib.Numerals.{add-one}
use native.Mathlib.Omega.{arith}
use Rattle.model.specs.declared.Thread.{Thread}
use Rattle.model.specs.Order.{key_of}
use Rattle.model.specs.Rules.{rule_at}
use Rattle.merge.specs.declared.Next.{Next}
use Rattle.merge.specs.Joining.{Listed, next_with, union_from, Nexts}
use Rattle.merge.specs.Union.{Entry, entry_of, both, entries_from, join, union_of, clash}
use Rattle.merge.proofs.Ascending.{Above, entries_above, takes_left, takes_right, takes_both}

-- The rules of a thread behind number r are above rule r.
behind : (t : Thread) → Listed t → (r : ℕ) → r < t.count → Above (key_of (rule_at t r)) (entries_from t (suc r) (t.count - suc r))
behind t h r p = entries_above t h _ (suc r) (t.count - suc r) (omega arith) (h.order r)

module _ (t u : Thread) (h : Listed t) (k : Listed u) (i j : ℕ) (low : i ≤ t.count) (low' : j ≤ u.count) where
  -- The next rule of the first thread, where that of the other is above it or there is none ..
  pub left : i < t.count → (j < u.count → key_of (rule_at t i) < key_of (rule_at u j)) → Nexts t u i j (next_with (entry_of t i) (i + 1) j)
  unfolding entries_from
  left p l =
      let cut : t.count - i ≡ suc (t.count - suc i) = omega arith in
      let rest = entries_above u k (key_of (rule_at t i)) j (u.count - j) (omega arith) l in
      record {
        same = rw (cut, add-one) (takes_left (entry_of t i) _ _ (behind t h i p) rest);
        low_i = omega arith;
        low_j = low';
        more = omega arith;
      }

  -- .. that of the other, in the same way ..
  pub right : j < u.count → (i < t.count → key_of (rule_at u j) < key_of (rule_at t i)) → Nexts t u i j (next_with (entry_of u j) i (j + 1))
  unfolding entries_from
  right p l =
      let cut : u.count - j ≡ suc (u.count - suc j) = omega arith in
      let rest = entries_above t h (key_of (rule_at u j)) i (t.count - i) (omega arith) l in
      record { same = rw (cut, add-one) (takes_right _ (entry_of u j) _ rest); low_i = low; low_j = omega arith; more = omega arith }

  -- .. or both, where they are one.
  pub one : i < t.count → j < u.count → key_of (rule_at t i) ≡ key_of (rule_at u j)
      → Nexts t u i j (next_with (both (entry_of t i) (entry_of u j)) (i + 1) (j + 1))
  unfolding entries_from
  one p q e =
      let cut : t.count - i ≡ suc (t.count - suc i) = omega arith in
      let cut' : u.count - j ≡ suc (u.count - suc j) = omega arith in
      record {
        same = rw (cut, cut', add-one, add-one) (takes_both (entry_of t i) _ (entry_of u j) _ e (behind t h i p));
        low_i = omega arith;
        low_j = omega arith;
        more = omega arith;
      }

-- From the first numbers on these are all rules of either ..
pub from_start : (t u : Thread) → union_from t u 0 0 ≡ union_of t u
from_start t u =
    let all : t.count - 0 ≡ t.count = omega arith in
    let all' : u.count - 0 ≡ u.count = omega arith in
    rw (all, all') refl

-- .. and at the end of both lists there is none.
pub at-end : (t u : Thread) {i j : ℕ} → i ≤ t.count → j ≤ u.count → t.count + u.count ≤ i + j → union_from t u i j ≡ []
unfolding entries_from join
at-end t u {i} {j} low low' h =
    let none_left : t.count - i ≡ 0 = omega arith in
    let none_left' : u.count - j ≡ 0 = omega arith in
    rw (none_left, none_left') refl

module _ {t u : Thread} {i j : ℕ} {x : Next} (n : Nexts t u i j x) where
  -- A rule that is both held and free is a clash ..
  pub clashes : x.held ≡ true → x.free ≡ true → clash (union_from t u i j) ≡ true
  unfolding clash
  clashes h f = rw (n.same, h, f) refl

  -- .. and behind another the rest decides.
  pub rest_decides : (x.held && x.free) ≡ false → clash (union_from t u i j) ≡ clash (union_from t u x.i x.j)
  unfolding clash
  rest_decides h = rw (n.same, h) refl

-- Where none is left, there is no clash.
pub none_clash : {es : List Entry} {b : Bool} → es ≡ [] → clash es ≡ b → false ≡ b
unfolding clash
none_clash e h = rw e at h
