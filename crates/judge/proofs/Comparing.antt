-- Comparing schedules byte by byte: bytes are a turn and a rule in turn, so at the first byte that differs the lower one is that of the
-- step that comes before.
use mathlib.Core.Bool.{Bool, true, false}
use mathlib.Core.List.{List, [], ◌∷◌, ◌++◌}
use mathlib.Core.Logic.{⊎_elim}
use mathlib.Core.Path.{◌≡◌, sym}
use Prim.Native.Nat.{ℕ, ◌+◌, ◌%◌, ◌≤◌, ◌<◌}
use native.Mathlib.Omega.{arith}
use lib.ListN.{length, take, drop}
use lib.Seq.{sets, sets-eq, length-sets, length-take-le, drop-append_seam}
use Rattle.std.specs.Prelude.{Option, Some}
use Rattle.std.specs.declared.cmp.Ordering.{Ordering}
use Rattle.std.specs.declared.cmp.Ordering.TheVariants.{Less, Equal, Greater}
use Rattle.std.specs.Cmp.{ranks}
use Rattle.std.specs.Cmp.Lexicographic.{slice_partial_cmp}
use Rattle.std.specs.Ordering.{is_lt, is_some_and, nat_cmp, partial_ordering_then, MatchOrdering}
use Rattle.model.specs.First.{Sooner, Before}
use Rattle.model.specs.Schedules.{steps_of}
use Rattle.model.specs.Walk.{Step}
use Rattle.model.proofs.Firsts.{sooner_self, before_cons, before_none, before_self, before_through}
use Rattle.run.specs.Levels.{Decides}

-- Behind two steps that are the same the rest decides.
same_first : (less : Bool) {s t : Step} (ss ts : List Step) → s ≡ t → Decides less (Before ss ts)
    → Decides less (Before (s ∷ ss) (t ∷ ts))
same_first true ss ts e d = rw e (Before.later d)
same_first false ss ts e d = λ b. ⊎_elim (λ h. sooner_self h e) (λ h. d h.1) (before_cons b)

-- A step that comes before another decides, and so does one that the other comes before.
sooner_not : {s t : Step} {ss ts : List Step} → Sooner t s → Before (s ∷ ss) (t ∷ ts) → ⊥
sooner_not {s} {ss = ss} h b = before_self (s ∷ ss) (before_through b (Before.now h))

-- Two bytes more in front, by how each compares.
two_first : (x r y q : ℕ) (xs ys : List Step) (o p : Ordering) (rest : Option Ordering) → MatchOrdering o (x < y) (x ≡ y) (y < x)
    → MatchOrdering p (r < q) (r ≡ q) (q < r) → Decides (is_some_and is_lt rest) (Before xs ys)
    → Decides (is_some_and is_lt (partial_ordering_then (Some o) (partial_ordering_then (Some p) rest)))
    (Before (record { turn = x; rule = r } ∷ xs) (record { turn = y; rule = q } ∷ ys))
two_first x r y q xs ys Less p rest l m d = Before.now (Sooner.turn l)
two_first x r y q xs ys Greater p rest l m d = sooner_not (Sooner.turn l)
two_first x r y q xs ys Equal Less rest e l d = Before.now (Sooner.rule e l)
two_first x r y q xs ys Equal Greater rest e l d = sooner_not (Sooner.rule (sym e) l)
two_first x r y q xs ys Equal Equal rest e f d = same_first (is_some_and is_lt rest) xs ys (rw (e, f)) d

-- Of two stores of whole steps the one whose bytes are in front in order has the schedule that stands before.
pub ordered : (xs ys : List ℕ) → length xs ≡ length ys → length xs % 2 ≡ 0
    → Decides (is_some_and is_lt (slice_partial_cmp (λ x y. Some (nat_cmp x y)) xs ys)) (Before (steps_of xs) (steps_of ys))
unfolding steps_of
ordered [] [] e p = before_none
ordered [] (y ∷ ys) e p = absurd (omega arith)
ordered (x ∷ xs) [] e p = absurd (omega arith)
ordered (x ∷ []) (y ∷ ys) e p = absurd (omega arith)
ordered (x ∷ r ∷ xs) (y ∷ []) e p = absurd (omega arith)
ordered (x ∷ r ∷ xs) (y ∷ q ∷ ys) e p =
    two_first x r y q (steps_of xs) (steps_of ys) (nat_cmp x y) (nat_cmp r q) _ (ranks x y) (ranks r q) (ordered xs ys (omega arith) (omega arith))

-- What is stored over as many bytes is what would be without them.
pub stored_over : (l a b : List ℕ) → length a ≡ length b → length b ≤ length l → sets (sets l 0 a) 0 b ≡ sets l 0 b
stored_over l a b e h =
    let z : 0 + length b ≡ length a = omega arith in
    let y : 0 + length a ≡ length a = omega arith in
    rw (
      sets-eq b (sets l 0 a) 0 (omega (arith, length-sets l 0 a)),
      sets-eq b l 0 (omega arith),
      sets-eq a l 0 (omega arith),
      z,
      y,
      drop-append_seam a (drop (length a) l),
    )

-- The front of another store copied over that of a store.
pub copied : (l a : List ℕ) (n : ℕ) → n ≤ length l → n ≤ length a → take n a ++ drop n l ≡ sets l 0 (take n a)
copied l a n h k =
    let size = length-take-le n a k in
    let place : 0 + n ≡ n = omega arith in
    rw (sets-eq (take n a) l 0 (omega (arith, size)), size, place)
