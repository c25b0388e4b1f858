-- Two views of one line, merged by turn, are a run. Some merging of them is a run, a run's turns ascend, and no turn is both
-- threads': so only the merging by turn can be it.
use mathlib.Core.Bool.{Bool, true, false, cond}
use mathlib.Core.List.{List, [], ◌∷◌}
use mathlib.Core.Path.{◌≡◌, refl}
use Prim.Native.Nat.{ℕ, ◌+◌, ◌≤◌, ◌<◌}
use native.Mathlib.Nat.{le_refl, le_trans}
use native.Mathlib.Omega.{arith}
use borrow.Author.Tests.{le-leb, lt-leb}
use lib.Dec.{leb}
use lib.ListN.{length}
use Rattle.model.specs.declared.Model.{Model}
use Rattle.model.specs.Tops.{Top}
use Rattle.model.specs.Runs.{Turns, stop, end, move, EndsUnder}
use Rattle.model.specs.declared.ThreadId.{ThreadId}
use Rattle.model.specs.declared.ThreadId.TheVariants.{A, B}
use Rattle.model.specs.Walk.{owner_of, Stacks, start_stacks, Step}
use Rattle.costs.specs.View.{View, stop, skip, end, move}
use Rattle.costs.proofs.Views.{Merged, none, left, right, tops_of, under_tops_lem, merged_views, under_views}
use Rattle.witness.specs.Merge.{merged}

-- The turns of steps ascend from turn t on.
abbrev Ascends : ℕ → List Step → Type 0
Ascends t [] = Unit {0}
Ascends t (s ∷ ss) = (t ≤ s.turn) × Ascends s.turn ss

-- All steps are made in turns of a thread.
abbrev pub Owned : ThreadId → List Step → Type 0
Owned i [] = Unit {0}
Owned i (s ∷ ss) = (owner_of s.turn ≡ i) × Owned i ss

-- Steps that ascend from a turn on do so from any earlier one.
earlier : {t u : ℕ} (ss : List Step) → t ≤ u → Ascends u ss → Ascends t ss
earlier [] h k = tt
earlier (s ∷ ss) h (k, r) = (le_trans h k, r)

module _ {m : Model} where
  -- A run's steps ascend ..
  pub ascends : {t g : ℕ} {held : Bool} {σ τ : Stacks} {line : List ℕ} {ss : List Step} → Turns m t held g σ line ss τ → Ascends t ss
  ascends stop = tt
  ascends {ss = ss} (end r) = earlier ss (omega arith) (ascends r)
  ascends {t} (move e p r) = (le_refl t, ascends r)

  -- .. and a view's are the thread's own.
  pub owned : {i : ThreadId} {top : Top} {t g : ℕ} {held : Bool} {w line : List ℕ} {ss : List Step} → View m i top t held g w line ss
      → Owned i ss
  owned (stop k) = tt
  owned (skip e v) = owned v
  owned (end e v) = owned v
  owned (move e p v) = (e, owned v)

-- Where the steps of two lists in one ascend from a turn on, neither the first list's are before that turn ..
first_from : {t : ℕ} {x : Step} {xs ys ss : List Step} → Merged (x ∷ xs) ys ss → Ascends t ss → t ≤ x.turn
first_from (left r) (h, k) = h
first_from (right r) (h, k) = le_trans h (first_from r k)

-- .. nor the second's.
second_from : {t : ℕ} {y : Step} {xs ys ss : List Step} → Merged xs (y ∷ ys) ss → Ascends t ss → t ≤ y.turn
second_from (left r) (h, k) = le_trans h (second_from r k)
second_from (right r) (h, k) = h

-- A turn of B's that is not after one of A's is before it.
pub before : (t u : ℕ) → owner_of t ≡ B → owner_of u ≡ A → t ≤ u → t < u
before t u b a h =
    let differ : t ≡ u → ⊥ = λ e. let z : ◌≡◌ {A = ℕ} 0 1 = cc in omega arith in
    omega arith

-- Merging with no steps changes nothing.
pub merge_nothing : (xs : List Step) → merged xs [] ≡ xs
unfolding merged
merge_nothing [] = refl
merge_nothing (x ∷ xs) = refl

-- A merged list that ascends is merged by turn.
pub by_turn : {xs ys ss : List Step} → Merged xs ys ss → (t : ℕ) → Owned A xs → Owned B ys → Ascends t ss → ss ≡ merged xs ys
unfolding merged
by_turn none t a b h = refl
by_turn {xs = x ∷ xs} {ys = []} (left r) t (o, a) b (h, k) = rw (by_turn r x.turn a b k, merge_nothing)
by_turn {xs = x ∷ xs} {ys = y ∷ ys} (left r) t (o, a) b (h, k) =
    rw (le-leb _ _ (second_from r k), by_turn r x.turn a b k)
by_turn {xs = []} {ys = y ∷ ys} (right r) t a (o, b) (h, k) = rw (by_turn r y.turn a b k)
by_turn {xs = x ∷ xs} {ys = y ∷ ys} (right r) t a (o, b) (h, k) =
    rw (lt-leb _ _ (before _ _ o a.0 (first_from r k)), by_turn r y.turn a b k)

-- Two views of one line to the tops that the model names, merged by turn, are a run to them.
pub merged_turns : {m : Model} {line : List ℕ} {xs ys : List Step}
    → View m A m.a.top 0 false m.start.0 (m.a.first.0 ∷ []) line xs
    → View m B m.b.top 0 false m.start.0 (m.b.first.0 ∷ []) line ys → EndsUnder m line (merged xs ys)
merged_turns {m} v w =
    let r = merged_views (tops_of m) {σ = start_stacks m} v w in
    let run = rw (by_turn r.merged 0 (owned v) (owned w) (ascends r.turns)) at r.turns in
    (r.stacks, run, (under_tops_lem m r.stacks).1 r.under)

-- Two lists of one length, whichever is taken.
either : (first : Bool) (xs ys : List Step) {n : ℕ} → length xs ≡ n → length ys ≡ n → length (cond first xs ys) ≡ n
either true xs ys p q = p
either false xs ys p q = q

-- Merging keeps the number of steps.
pub merge_length : (xs ys : List Step) → length (merged xs ys) ≡ length xs + length ys
unfolding merged
merge_length [] ys = omega arith
merge_length (x ∷ xs) [] = omega arith
merge_length (x ∷ xs) (y ∷ ys) =
    either (leb x.turn y.turn) (x ∷ merged xs (y ∷ ys)) (y ∷ merged (x ∷ xs) ys)
    (omega (arith, merge_length xs (y ∷ ys)))
    (omega (arith, merge_length (x ∷ xs) ys))

-- A run to the tops that a model names is both threads' views of its line, merged by turn.
pub record Parted (m : Model) (line : List ℕ) (ss : List Step) : Type 0 where
  pub xs : List Step
  pub ys : List Step
  pub a : View m A m.a.top 0 false m.start.0 (m.a.first.0 ∷ []) line xs
  pub b : View m B m.b.top 0 false m.start.0 (m.b.first.0 ∷ []) line ys
  pub all : ss ≡ merged xs ys

-- Each such run parts so.
pub parts : {m : Model} {line : List ℕ} {ss : List Step} → EndsUnder m line ss → Parted m line ss
parts {m} (σ, r, h) =
    let v = under_views (σ, r, h) in
    record { xs = v.xs; ys = v.ys; a = v.a; b = v.b; all = by_turn v.all 0 (owned v.a) (owned v.b) (ascends r) }
