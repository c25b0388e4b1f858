-- The three verdicts, over all schedules of any length.
use Rattle.std.specs.Prelude.{List, ◌≡◌, ℕ, suc, ◌≤◌, length}
use Rattle.model.specs.declared.Model.{Model}
use Rattle.model.specs.Walk.{Step}
use Rattle.model.specs.Runs.{Reaches}
use Rattle.model.specs.Schedules.{most_steps}

-- What is said of a model. Found carries the number of steps of a shortest run.
pub data Verdict : Type 0 where
  clear long : Verdict
  found : ℕ → Verdict

-- Each run that reaches the target has at least n steps.
abbrev pub AtLeast : Model → ℕ → Type 0
AtLeast m n = (ss : List Step) → Reaches m ss → n ≤ length ss

-- Some run reaches the target in n steps, and every other run that does has at least as many.
pub record Shortest (m : Model) (n : ℕ) : Type 0 where
  pub schedule : List Step
  pub reaches : Reaches m schedule
  pub steps : length schedule ≡ n
  pub least : AtLeast m n

-- Clear: no run reaches the target. Long: some run does, and each that does has more than 4,095 steps, the most that a schedule may
-- have. Found n: a shortest run that does has n steps, at most 4,095.
abbrev pub Judged : Model → Verdict → Type 0
Judged m clear = (ss : List Step) → Reaches m ss → ⊥
Judged m long = ((ss : List Step) × Reaches m ss) × AtLeast m (suc most_steps)
Judged m (found n) = (n ≤ most_steps) × Shortest m n
