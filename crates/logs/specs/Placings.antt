-- Placings: the schedules that a log may stand for, each of its steps in some turn (context). They say what the rounds of a log are, apart
-- from how they are found.
use Rattle.std.specs.Prelude.{List, [], ◌∷◌, ◌≡◌, ℕ, ◌+◌, ◌*◌, ◌%◌, ◌≤◌, length}
use Rattle.model.specs.declared.Model.{Model}
use Rattle.model.specs.Runs.{Leads}
use Rattle.model.specs.Schedules.{most_steps}
use Rattle.model.specs.Valid.{Valid}
use Rattle.model.specs.Walk.{Stacks, Step}

-- The byte that is recorded for a step: its rule's number, and bit 7 for a step of B, whose turns are odd.
abbrev pub recorded : Step → ℕ
recorded s = 128 * (s.turn % 2) + s.rule

-- The log of a schedule: the byte of each step, in order.
abbrev pub log_of : List Step → List ℕ
log_of [] = []
log_of (s ∷ ss) = recorded s ∷ log_of ss

-- The same model with n rounds in place of K.
abbrev pub in_rounds : ℕ → Model → Model
in_rounds n m = record { g = m.g; k = n; start = m.start; target = m.target; a = m.a; b = m.b }

-- A placing of a log within n rounds, which may be above K: a schedule with this log that is a run of at most n rounds and leads to the
-- shared state q.
pub record Placing (m : Model) (log : List ℕ) (n : ℕ) (ss : List Step) (q : ℕ) : Type 0 where
  pub logged : log_of ss ≡ log
  pub stacks : Stacks
  pub leads : Leads (in_rounds n m) ss q stacks

-- A log of at most 4,095 bytes of a valid model has a placing within n rounds and none within fewer, and every placing leads to q.
-- A log is accepted, with q and n, just where this holds (a law).
pub record Fewest (m : Model) (log : List ℕ) (q n : ℕ) : Type 0 where
  pub valid : Valid m
  pub most : length log ≤ most_steps
  pub steps : List Step
  pub placing : Placing m log n steps q
  pub least : (r : ℕ) (ss : List Step) (p : ℕ) → Placing m log r ss p → (n ≤ r) × (p ≡ q)
