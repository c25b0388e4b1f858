-- The parts of the rules at a state and a top, and the copies of a state.
use mathlib.Core.List.{List, [], ◌∷◌, ◌++◌}
use mathlib.Core.Path.{◌≡◌}
use Prim.Native.Nat.{ℕ, ◌+◌, ◌≤◌, ◌<◌}
use native.Mathlib.Omega.{arith}
use lib.ListN.{length, length-append, get_or, take}
use borrow.Author.Tests.{le-leb, lt-leb}
use Rattle.model.specs.declared.Model.{Model}
use Rattle.model.specs.Lines.{digits}
use Rattle.model.proofs.Positions.{length_digits}
use Rattle.sequential.specs.Listed.{taker_of, taken_at, pass_of, begin_of, close_of, rules_at}
use Rattle.sequential.specs.System.{State}
use Rattle.sequential.specs.Text.{text_of}
use Rattle.sequential.proofs.Counting.{text_append}

module _ (m : Model) (s : State) (top : ℕ) where
  -- What stands at a state up to counter K: the threads' rules, the pass and B's begin ..
  pub early_text : s.counter ≤ m.k
      → text_of (rules_at m s top) ≡ text_of (taken_at m (taker_of top) s top) ++ text_of (pass_of s top) ++ text_of (begin_of m.b s top)
  unfolding rules_at
  early_text h =
      rw (
        le-leb s.counter m.k h,
        text_append (taken_at m (taker_of top) s top ++ pass_of s top) (begin_of m.b s top),
        text_append (taken_at m (taker_of top) s top) (pass_of s top),
      )

  pub early_length : s.counter ≤ m.k
      → length (text_of (rules_at m s top)) ≡
      length (text_of (taken_at m (taker_of top) s top)) + length (text_of (pass_of s top)) + length (text_of (begin_of m.b s top))
  early_length h = rw (early_text h) (simp length-append)

  -- .. and after it the close.
  pub late_text : m.k < s.counter → text_of (rules_at m s top) ≡ text_of (close_of s top)
  unfolding rules_at
  late_text h = rw (lt-leb s.counter m.k h)

-- Up to three copies, one by one, are all.
all_copies : (k : ℕ) (l : List ℕ) → length l ≡ k → k ≤ 3 → take k (get_or l 0 0 ∷ get_or l 1 0 ∷ get_or l 2 0 ∷ []) ≡ l
all_copies k [] e h = rw (← e)
all_copies k (x ∷ []) e h = rw (← e)
all_copies k (x ∷ y ∷ []) e h = rw (← e)
all_copies k (x ∷ y ∷ z ∷ []) e h = rw (← e)
all_copies k (x ∷ y ∷ z ∷ u ∷ l) e h = absurd (omega arith)

-- The copies of a value are its digits.
pub made_copies : (g k v : ℕ) {x y z : ℕ} → k ≤ 3 → x ≡ get_or (digits g k v) 0 0 → y ≡ get_or (digits g k v) 1 0
    → z ≡ get_or (digits g k v) 2 0 → take k (x ∷ y ∷ z ∷ []) ≡ digits g k v
made_copies g k v three a b c = rw (a, b, c) (all_copies k (digits g k v) (length_digits g k v) three)
