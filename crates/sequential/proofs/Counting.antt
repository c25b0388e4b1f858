-- Parts taken by a sink one after another; and what a loop over the numbers below n has given it is the text of `below`.
use mathlib.Core.List.{List, [], ◌∷◌, ◌++◌, append_assoc, append-nil}
use mathlib.Core.Path.{◌≡◌, refl}
use Prim.Native.Nat.{ℕ, zero, suc, ◌+◌, ◌≤◌, ◌<◌}
use native.Mathlib.Decide.{dec_lt}
use native.Mathlib.Numerals.{add-one}
use native.Mathlib.Omega.{arith}
use lib.ListN.{length, length-append}
use Rattle.sequential.specs.Listed.{below}
use Rattle.sequential.specs.Sinks.{Laws}
use Rattle.sequential.specs.System.{StackRule}
use Rattle.sequential.specs.Text.{rule_text, text_of}

-- The text of one list and then of another.
pub text_append : (xs ys : List StackRule) → text_of (xs ++ ys) ≡ text_of xs ++ text_of ys
unfolding text_of
text_append [] ys = refl
text_append (x ∷ xs) ys = rw (text_append xs ys, append_assoc)

-- That of one rule.
pub text_one : (r : StackRule) → text_of (r ∷ []) ≡ rule_text r
unfolding text_of
text_one r = append-nil _

-- What is next has room where the whole has.
pub within : (f : ℕ → List StackRule) (i n : ℕ) → i < n
    → length (text_of (below f i)) + length (text_of (f i)) ≤ length (text_of (below f n))
unfolding below
within f i zero h = absurd (omega arith)
within f i (suc n) h = elim (dec_lt i n) [
  | yes l ↦ let less = within f i n l in rw (text_append (below f n) (f n)) (simp length-append (omega arith))
  | no l ↦ let e : i ≡ n = omega arith in rw (e, text_append (below f n) (f n)) (simp length-append (omega arith))
]

module _ {S : Type 0} {takes : S → S → List ℕ → Type 0} {room : S → ℕ} (laws : Laws takes room) (f : ℕ → List StackRule) where
  -- The loop starts ..
  pub loop_start : (x : S) → takes x x (text_of (below f 0))
  unfolding text_of below
  loop_start x = laws.nothing x

  -- .. goes on ..
  pub loop_next : {x y z : S} (n : ℕ) → takes x y (text_of (below f n)) → takes y z (text_of (f n))
      → takes x z (text_of (below f (n + 1)))
  unfolding below
  loop_next n p q = rw (add-one n, text_append (below f n) (f n)) (laws.after p q)

  -- .. and has room for the next part.
  pub loop_room : {x y : S} {r n : ℕ} → r < n → takes x y (text_of (below f r)) → length (text_of (below f n)) ≤ room x
      → length (text_of (f r)) ≤ room y
  loop_room {r = r} {n} h p k = omega (arith, laws.left p, within f r n h)
