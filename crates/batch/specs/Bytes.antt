-- Outcomes as bytes: six for each, with the low byte of a number first.
use Rattle.std.specs.Prelude.{List, [], ◌∷◌, ◌≡◌, ℕ, ◌/◌, ◌%◌, length, Result}
use Rattle.std.proofs.lemmas.List.Edits.{sets}
use Rattle.model.specs.declared.refusal.Refusal.{Refusal}
use Rattle.model.specs.Bits.{one_if}
use Rattle.batch.specs.declared.Outcome.{Outcome}
use Rattle.batch.specs.Batch.{Batched}

-- The bytes of outcomes: the verdict's number, the steps in two bytes, 1 or 0 for written or not, and the place in two.
abbrev pub outcome_bytes : List Outcome → List ℕ
outcome_bytes [] = []
outcome_bytes (o ∷ os) =
    o.verdict ∷ o.steps % 256 ∷ o.steps / 256 ∷ one_if o.written ∷ o.place % 256 ∷ o.place / 256 ∷ outcome_bytes os

-- The same call with a list of bytes, which has a place in each six.
pub record ListedBytes (tray : List ℕ) (r : Result ℕ Refusal) (list list' old new : List ℕ) : Type 0 where
  pub outcomes : List Outcome
  pub batched : Batched tray (length list / 6) r outcomes old new
  pub filled : list' ≡ sets list 0 (outcome_bytes outcomes)
