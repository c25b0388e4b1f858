-- The answers of the call, each with what the store then holds: the model is refused, the store is too short, or the text stands.
use mathlib.Core.List.{List, [], ◌∷◌, ◌++◌}
use mathlib.Core.Path.{◌≡◌, refl}
use Prim.Native.Nat.{ℕ, zero, suc, ◌≤◌, ◌<◌}
use native.Mathlib.Nat.{zero-add}
use native.Mathlib.Omega.{arith}
use lib.Dec.{leb}
use lib.ListN.{length, drop}
use lib.Seq.{sets-eq}
use borrow.Author.Tests.{le-leb, lt-leb}
use Rattle.model.specs.declared.Model.{Model}
use Rattle.model.specs.declared.refusal.Refusal.{Refusal}
use Rattle.model.specs.Refusals.{number_of}
use Rattle.model.specs.Results as results
use Rattle.model.specs.Results.{Result, refuse, first_of, store_by}
use Rattle.model.proofs.Checks.{stops}
use Rattle.model.proofs.Refusals.{number_some}
use Rattle.sequential.specs.Answer.{model_refusal, text_for, print_refusal, printed_by, printed_of, print_store}
use Rattle.writer.specs.Put.{Put}

module _ (m : Model) (store : List ℕ) where
  -- What the call promises of an answer and of the store as it leaves it.
  abbrev Told : Result ℕ → List ℕ → Type 0
  Told r new = (r ≡ printed_of m (length store)) × (new ≡ print_store m store)

  -- The refusal that is due fixes both.
  told : (n : ℕ) → n ≡ print_refusal m (length store) → Told (printed_by n (text_for m)) (store_by n (text_for m) store)
  unfolding printed_of print_store
  told n e = (rw (← e), rw (← e))

  -- The model is refused ..
  pub refused : (r : Refusal) → number_of r ≡ model_refusal m → Told (results.refused (number_of r)) store
  unfolding print_refusal
  refused r e = go (number_of r) (number_some r) (stops (refuse 7 (leb (length (text_for m)) (length store)) ∷ []) e (number_some r))
    where
      go : (k : ℕ) → (k ≡ 0 → ⊥) → k ≡ print_refusal m (length store) → Told (results.refused k) store
      go zero h d = absurd (h refl)
      go (suc k) h d = told (suc k) d

  module _ (e : 0 ≡ model_refusal m) where
    -- .. of one that is not, the text does not fit ..
    pub short : length store < length (text_for m) → Told (results.refused 7) store
    unfolding print_refusal first_of
    short h = told 7 (rw (← e, lt-leb (length (text_for m)) (length store) h))

    -- .. or it stands.
    pub whole : {new : List ℕ} {r : ℕ} → length (text_for m) ≤ length store → Put store new 0 r (text_for m)
        → Told (results.accepted r) new
    unfolding print_refusal first_of
    whole {new} {r} fits q =
        let text = text_for m in
        let due : 0 ≡ print_refusal m (length store) = rw (← e, le-leb (length text) (length store) fits) in
        let front : new ≡ text ++ drop (length text) store =
        rw (q.stored, sets-eq text store 0 (omega arith), zero-add) in
        let answer : r ≡ length text = omega (arith, q.ends) in
        rw (answer, front) (told 0 due)
