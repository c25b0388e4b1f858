-- The three answers of the call, each with what the store then holds: what replay refuses, a store too short, the page.
use mathlib.Core.List.{List, [], ◌∷◌, ◌++◌}
use mathlib.Core.Path.{◌≡◌, refl}
use Prim.Native.Nat.{ℕ, zero, suc, ◌≤◌, ◌<◌}
use native.Mathlib.Nat.{zero-add}
use native.Mathlib.Omega.{arith}
use lib.Dec.{leb}
use lib.ListN.{length, drop}
use lib.Seq.{sets-eq}
use borrow.Author.Tests.{le-leb, lt-leb}
use Rattle.model.specs.declared.Model.{Model}
use Rattle.model.specs.Results as results
use Rattle.model.specs.Results.{Result, refuse, first_of, store_by}
use Rattle.model.specs.Schedules.{steps_of}
use Rattle.model.proofs.Checks.{stops}
use Rattle.replay.specs.declared.Replayed.{Replayed}
use Rattle.replay.specs.Replay.{replay_of}
use Rattle.replay.proofs.Ranges.{refused_by}
use Rattle.writer.specs.Put.{Put}
use Rattle.page.specs.Answer.{replay_refusal, page_refusal, paged_by, paged_of, page_store}
use Rattle.page.specs.Page.{page_of}

module _ (m : Model) (l store : List ℕ) where
  -- What the call promises of an answer and of the store as it leaves it.
  abbrev Told : Result ℕ → List ℕ → Type 0
  Told r new = (r ≡ paged_of m l (length store)) × (new ≡ page_store m l store)

  -- The refusal that is due fixes both.
  told : (n : ℕ) → n ≡ page_refusal m l (length store)
      → Told (paged_by n (page_of m (steps_of l))) (store_by n (page_of m (steps_of l)) store)
  unfolding paged_of page_store
  told n e = (rw (← e), rw (← e))

  -- What replay refuses is refused ..
  pub refused : {n : ℕ} → replay_of m l ≡ results.refused n → Told (results.refused n) store
  unfolding page_refusal
  refused {n} e =
      let page = page_of m (steps_of l) in
      let here : n ≡ replay_refusal (replay_of m l) = rw e in
      go n (refused_by m l e) (stops (refuse 7 (leb (length page) (length store)) ∷ []) here (refused_by m l e))
    where
      go : (k : ℕ) → (k ≡ 0 → ⊥) → k ≡ page_refusal m l (length store) → Told (results.refused k) store
      go zero h d = absurd (h refl)
      go (suc k) h d = told (suc k) d

  module _ {r : Replayed} (e : replay_of m l ≡ results.accepted r) {n : ℕ} (size : length (page_of m (steps_of l)) ≡ n) where
    -- .. and of what it accepts a page that does not fit ..
    pub short : length store < n → Told (results.refused 7) store
    unfolding page_refusal first_of
    short h = told 7 (rw (e, size, lt-leb n (length store) h))

    -- .. while one that fits is put.
    pub whole : n ≤ length store → {new : List ℕ} {r : ℕ} → Put store new 0 r (page_of m (steps_of l)) → Told (results.accepted r) new
    unfolding page_refusal first_of
    whole h {new} {r} p =
        let page = page_of m (steps_of l) in
        let due : 0 ≡ page_refusal m l (length store) = rw (e, size, le-leb n (length store) h) in
        let front : new ≡ page ++ drop (length page) store =
        rw (p.stored, sets-eq page store 0 (omega arith), zero-add) in
        let answer : r ≡ length page = omega (arith, p.ends) in
        rw (answer, front) (told 0 due)
