-- Merging by turn keeps the order of schedules: where two runs of a thread first differ the earlier one has the lower turn, or in the
-- same turn the lower rule, and the other thread's steps stand where they stood or later. So the merge of both threads' first runs along
-- a line is the first schedule along it.
use mathlib.Core.List.{List, [], ◌∷◌}
use mathlib.Core.Logic.{◌⊎◌, inl, inr, ⊎_elim}
use mathlib.Core.Path.{◌≡◌, sym, ◌∙◌}
use Prim.Native.Nat.{ℕ, suc, ◌+◌, ◌*◌, ◌≤◌, ◌<◌}
use native.Mathlib.Decide.{dec_le}
use native.Mathlib.Omega.{arith}
use borrow.Author.Tests.{le-leb, lt-leb}
use lib.ListN.{length}
use Rattle.model.specs.declared.Model.{Model}
use Rattle.model.specs.First.{Sooner, Before, First}
use Rattle.model.specs.Runs.{EndsUnder}
use Rattle.model.specs.declared.ThreadId.TheVariants.{A, B}
use Rattle.model.specs.Walk.{owner_of, Step}
use Rattle.model.proofs.Firsts.{before_self, before_through, before_or}
use Rattle.costs.specs.Cost.{RunAlong}
use Rattle.costs.proofs.Along.{line_view}
use Rattle.witness.specs.Merge.{merged}
use Rattle.witness.proofs.Merging.{Owned, owned, before, merged_turns, merge_length, parts}

-- A step that comes before another has no higher turn.
no_later : {s t : Step} → Sooner s t → s.turn ≤ t.turn
no_later (Sooner.turn l) = omega arith
no_later (Sooner.rule e l) = omega arith

-- A turn of A's that is not after one of B's is before it.
ahead : (t u : ℕ) → owner_of t ≡ A → owner_of u ≡ B → t ≤ u → t < u
ahead t u a b h =
    let differ : t ≡ u → ⊥ = λ e. omega (arith, before u t b a (omega arith)) in
    omega arith

-- A's earlier steps, merged with the same steps of B's, are the earlier ones.
pub first_before : {xs ts : List Step} (ys : List Step) → Before xs ts → Owned A xs → Owned B ys
    → Before (merged xs ys) (merged ts ys)
unfolding merged
first_before [] (Before.now h) a b = Before.now h
first_before [] (Before.later r) a b = Before.later r
first_before (y ∷ ys) (Before.now {s} {t} h) a b =
    elim (dec_le s.turn y.turn) [
      | yes l ↦
          elim (dec_le t.turn y.turn) [
            | yes k ↦ rw (le-leb _ _ l, le-leb _ _ k) (Before.now h)
            | no k ↦ rw (le-leb _ _ l, lt-leb t.turn y.turn (omega arith)) (Before.now (Sooner.turn (ahead _ _ a.0 b.0 l)))
          ]
      | no l ↦
          let k = no_later h in
          rw (lt-leb s.turn y.turn (omega arith), lt-leb t.turn y.turn (omega arith))
          (Before.later (first_before ys (Before.now h) a b.1))
    ]
first_before (y ∷ ys) (Before.later {s} {ss} {ts} r) a b =
    elim (dec_le s.turn y.turn) [
      | yes l ↦ rw (le-leb _ _ l) (Before.later (first_before {xs = ss} {ts = ts} (y ∷ ys) r a.1 b))
      | no l ↦ rw (lt-leb s.turn y.turn (omega arith)) (Before.later (first_before ys (Before.later r) a b.1))
    ]

-- B's earlier steps, merged with the same steps of A's, are the earlier ones.
pub second_before : (xs : List Step) {ys us : List Step} → Before ys us → Before (merged xs ys) (merged xs us)
unfolding merged
second_before [] r = r
second_before (x ∷ xs) (Before.now {s} {t} h) =
    elim (dec_le x.turn s.turn) [
      | yes l ↦
          let k = no_later h in
          rw (le-leb _ _ l, le-leb x.turn t.turn (omega arith)) (Before.later (second_before xs (Before.now h)))
      | no l ↦
          elim (dec_le x.turn t.turn) [
            | yes k ↦ rw (lt-leb x.turn s.turn (omega arith), le-leb _ _ k) (Before.now {s = s} {t = x} (Sooner.turn (omega arith)))
            | no k ↦ rw (lt-leb x.turn s.turn (omega arith), lt-leb x.turn t.turn (omega arith)) (Before.now h)
          ]
    ]
second_before (x ∷ xs) (Before.later {s} r) =
    elim (dec_le x.turn s.turn) [
      | yes l ↦ rw (le-leb _ _ l) (Before.later (second_before xs (Before.later r)))
      | no l ↦ rw (lt-leb x.turn s.turn (omega arith)) (Before.later (second_before (x ∷ xs) r))
    ]

-- A list is another, or stands before it.
abbrev NoLater : List Step → List Step → Type 0
NoLater xs ts = (xs ≡ ts) ⊎ Before xs ts

-- The first of a kind is no later than another of the kind and of so many steps.
no_earlier : {Run : List Step → Type 0} {n : ℕ} {xs ts : List Step} → First Run n xs → Run ts → length ts ≡ n → NoLater xs ts
no_earlier {xs = xs} {ts} f r e =
    ⊎_elim (λ b. inr b) (⊎_elim (λ s. inl s) (λ b. absurd (f.first ts r e b))) (before_or xs ts (f.count ∙ sym e))

-- What stands before a merged list stands before each with no earlier steps of A's ..
past_first : {zs xs ts : List Step} (ys : List Step) → NoLater xs ts → Owned A xs → Owned B ys → Before zs (merged xs ys)
    → Before zs (merged ts ys)
past_first ys (inl e) a b h = rw e at h
past_first ys (inr r) a b h = before_through h (first_before ys r a b)

-- .. and before each with no earlier ones of B's.
past_second : {zs ys us : List Step} (xs : List Step) → NoLater ys us → Before zs (merged xs ys) → Before zs (merged xs us)
past_second xs (inl e) h = rw e at h
past_second xs (inr r) h = before_through h (second_before xs r)

-- The merge of both threads' first runs along a line is the first schedule along it, where neither thread has a shorter run along it.
pub merged_first : (m : Model) (n : ℕ) (line : List ℕ) {x y : ℕ} {xs ys : List Step} → length line ≡ 2 * suc n
    → First (RunAlong m.a m.a.top A n m.start.0 line) x xs
    → First (RunAlong m.b m.b.top B n m.start.0 line) y ys
    → ((ss : List Step) → RunAlong m.a m.a.top A n m.start.0 line ss → x ≤ length ss)
    → ((ss : List Step) → RunAlong m.b m.b.top B n m.start.0 line ss → y ≤ length ss)
    → First (EndsUnder m line) (x + y) (merged xs ys)
merged_first m n line {x} {y} {xs} {ys} size p q low bottom =
    let v = (line_view m A m.a.top n m.start.0 (m.a.first.0 ∷ []) line xs size).1 p.run in
    let w = (line_view m B m.b.top n m.start.0 (m.b.first.0 ∷ []) line ys size).1 q.run in
    record {
      run = merged_turns v w;
      count = merge_length xs ys ∙ omega (arith, p.count, q.count);
      first = λ zs r e b.
          let s = parts r in
          let k = (line_view m A m.a.top n m.start.0 (m.a.first.0 ∷ []) line s.xs size).0 s.a in
          let l = (line_view m B m.b.top n m.start.0 (m.b.first.0 ∷ []) line s.ys size).0 s.b in
          let sum : length s.xs + length s.ys ≡ x + y = sym (merge_length s.xs s.ys) ∙ (rw s.all at e) in
          let i = low s.xs k in
          let j = bottom s.ys l in
          before_self (merged s.xs s.ys)
          (past_second s.xs (no_earlier q l (omega arith))
          (past_first ys (no_earlier p k (omega arith)) (owned v) (owned w) (rw s.all at b)));
    }
