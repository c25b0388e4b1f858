-- Schedules in order (lexicographic), and the first of a kind.
use Rattle.std.specs.Prelude.{List, ◌∷◌, ◌≡◌, ℕ, ◌<◌, length}
use Rattle.model.specs.declared.Model.{Model}
use Rattle.model.specs.Runs.{Reaches}
use Rattle.model.specs.Walk.{Step}

-- One step comes before another: in a lower turn, or in the same turn by a rule of lower number.
pub data Sooner (s t : Step) : Type 0 where
  turn : s.turn < t.turn → Sooner s t
  rule : s.turn ≡ t.turn → s.rule < t.rule → Sooner s t

-- One schedule stands before another: at the first place where they differ its step comes before.
pub data Before : List Step → List Step → Type 0 where
  now : {s t : Step} {ss ts : List Step} → Sooner s t → Before (s ∷ ss) (t ∷ ts)
  later : {s : Step} {ss ts : List Step} → Before ss ts → Before (s ∷ ss) (s ∷ ts)

-- The first schedule of a kind that has n steps: no other of the kind and of so many steps stands before it.
pub record First (Run : List Step → Type 0) (n : ℕ) (ss : List Step) : Type 0 where
  pub run : Run ss
  pub count : length ss ≡ n
  pub first : (ts : List Step) → Run ts → length ts ≡ n → Before ts ss → ⊥

-- The least schedule of n steps that reaches the target.
abbrev pub LeastSchedule : Model → ℕ → List Step → Type 0
LeastSchedule m n ss = First (Reaches m) n ss
