-- What judging the records one after another leaves.
use Rattle.std.specs.Prelude.{List, [], ◌∷◌, ◌≡◌, ℕ, ◌*◌, ◌≤◌, length, take, Result, Ok, Err}
use Rattle.std.proofs.lemmas.List.Edits.{sets}
use Rattle.model.specs.declared.Model.{Model}
use Rattle.model.specs.declared.refusal.Refusal.{Refusal}
use Rattle.model.specs.Schedules.{bytes_of}
use Rattle.model.specs.Verdict.{Verdict, Judged}
use Rattle.model.specs.Walk.{Step}
use Rattle.tray.specs.Whole.{ReadAs}
use Rattle.batch.specs.declared.Outcome.{Outcome}
use Rattle.batch.specs.declared.together.Batch.{Batch}
use Rattle.batch.specs.Batch.{most_records, Schedules, JudgedFrom, Batched}
use Rattle.batch.specs.Outcomes.{outcome_of}

-- A model is judged where so many steps are written before it: its outcome, by its verdict, and a store that holds its schedule behind those
-- steps where it is written, with all else as it was.
pub record JudgedAlone (used : ℕ) (m : Model) (o : Outcome) (old new : List ℕ) : Type 0 where
  pub verdict : Verdict
  pub judged : Judged m verdict
  pub outcome : o ≡ outcome_of used verdict
  pub steps : List Step
  pub schedule : Schedules (m ∷ []) (o ∷ []) steps
  pub stored : new ≡ sets old (2 * used) (bytes_of steps)

-- The n records of a tray are judged: their outcomes are the first n of a list with 32 places.
pub record EachJudged (tray : List ℕ) (n : ℕ) (list : List Outcome) (old new : List ℕ) : Type 0 where
  pub places : length list ≡ most_records
  pub models : List Model
  pub read : ReadAs tray models
  pub many : length models ≡ n
  pub judged : JudgedFrom 0 models (take n list) old new

-- What judging all records answers, for a list of so many places: the outcomes in the first of 32 places, no more than the list has; or a
-- refusal.
abbrev pub JudgesAll : List ℕ → ℕ → Result Batch Refusal → List ℕ → List ℕ → Type 0
JudgesAll tray places (Ok b) old new =
    (b.count ≤ places) × (b.count ≤ most_records) × (length b.outcomes ≡ most_records)
    × Batched tray places (Ok b.count) (take b.count b.outcomes) old new
JudgesAll tray places (Err r) old new = Batched tray places (Err r) [] old new
