-- A tray judged together: what is answered, and what stands in the store of schedules.
use Rattle.std.specs.Prelude.{Result, Ok, Err, true, false, List, [], ◌∷◌, ◌++◌, ◌≡◌, ℕ, ◌*◌, ◌<◌, leb, length}
use Rattle.std.proofs.lemmas.List.Edits.{sets}
use Rattle.model.specs.declared.Model.{Model}
use Rattle.model.specs.declared.refusal.Refusal.{Refusal}
use Rattle.model.specs.First.{LeastSchedule}
use Rattle.model.specs.Refusals.{number_of}
use Rattle.model.specs.Results.{refuse, first_of}
use Rattle.model.specs.Schedules.{most_bytes, bytes_of}
use Rattle.model.specs.Verdict.{Verdict, Judged}
use Rattle.model.specs.Walk.{Step}
use Rattle.tray.specs.Whole.{ReadAs, RefusedBy}
use Rattle.batch.specs.declared.Outcome.{Outcome}
use Rattle.batch.specs.Outcomes.{outcomes_from}

-- The most records that are judged together.
abbrev pub most_records : ℕ
most_records = 32

-- What is refused once so many records are read, in order: more than 32 of them (19), a list with fewer places (20), and a schedule store
-- below 8,190 bytes (7); 0 for nothing.
unfoldable pub size_refusal : ℕ → ℕ → ℕ → ℕ
size_refusal records places store =
    first_of (refuse 19 (leb records most_records) ∷ refuse 20 (leb records places) ∷ refuse 7 (leb most_bytes store) ∷ [])

-- The refusal of a tray: the number of its first bad record, wherever it stands; or where it is read to its end, that of the sizes.
pub data Refuses (tray : List ℕ) (places store : ℕ) : ℕ → Type 0 where
  bad : {n : ℕ} → RefusedBy tray n → Refuses tray places store n
  sizes : {n : ℕ} {ms : List Model} → ReadAs tray ms → size_refusal (length ms) places store ≡ n → 0 < n → Refuses tray places store n

-- Verdicts are true of models, one by one. Each is that of the model alone.
abbrev pub AllJudged : List Model → List Verdict → Type 0
AllJudged [] [] = Unit {0}
AllJudged [] (v ∷ vs) = ⊥
AllJudged (m ∷ ms) [] = ⊥
AllJudged (m ∷ ms) (v ∷ vs) = Judged m v × AllJudged ms vs

-- The schedules that are written, one after another: for each outcome that says so, the least schedule of its model.
pub data Schedules : List Model → List Outcome → List Step → Type 0 where
  -- there are no more records
  end : Schedules [] [] []
  -- the schedule of the first one is not written
  skipped : {m : Model} {ms : List Model} {o : Outcome} {os : List Outcome} {ss : List Step} → o.written ≡ false → Schedules ms os ss
      → Schedules (m ∷ ms) (o ∷ os) ss
  -- it is, before the others
  written : {m : Model} {ms : List Model} {o : Outcome} {os : List Outcome} {ss ts : List Step} → o.written ≡ true
      → LeastSchedule m o.steps ts → Schedules ms os ss → Schedules (m ∷ ms) (o ∷ os) (ts ++ ss)

-- Models are judged in order, where so many steps are written before them: their outcomes, by their verdicts, and a store that holds the
-- schedules behind those steps, with all else as it was.
pub record JudgedFrom (used : ℕ) (ms : List Model) (os : List Outcome) (old new : List ℕ) : Type 0 where
  pub verdicts : List Verdict
  pub judged : AllJudged ms verdicts
  pub outcomes : os ≡ outcomes_from used verdicts
  pub steps : List Step
  pub schedules : Schedules ms os steps
  pub stored : new ≡ sets old (2 * used) (bytes_of steps)

-- A tray is judged: it is read to its end, nothing is refused, and its models are judged from the front of the store on.
pub record Together (tray : List ℕ) (places : ℕ) (os : List Outcome) (old new : List ℕ) : Type 0 where
  pub models : List Model
  pub read : ReadAs tray models
  pub sizes : size_refusal (length models) places (length old) ≡ 0
  pub judged : JudgedFrom 0 models os old new

-- What is answered, for a list of so many places, with these outcomes: the number of records; or a refusal, with no outcome and the store as
-- it was.
abbrev pub Batched : List ℕ → ℕ → Result ℕ Refusal → List Outcome → List ℕ → List ℕ → Type 0
Batched tray places (Ok n) os old new = (n ≡ length os) × Together tray places os old new
Batched tray places (Err r) os old new = (os ≡ []) × Refuses tray places (length old) (number_of r) × (new ≡ old)

-- The call's list holds the outcomes in its first places; all others are as they were.
pub record Listed (tray : List ℕ) (r : Result ℕ Refusal) (list list' : List Outcome) (old new : List ℕ) : Type 0 where
  pub outcomes : List Outcome
  pub batched : Batched tray (length list) r outcomes old new
  pub filled : list' ≡ sets list 0 outcomes
