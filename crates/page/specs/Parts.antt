-- What the helpers ask: numbers that fit their columns, and schedules whose turns never fall.
use Rattle.std.specs.Prelude.{List, [], ◌∷◌, ℕ, ◌*◌, ◌≤◌, ◌<◌, length}
use Rattle.model.specs.declared.Model.{Model}
use Rattle.model.specs.Fits.{Fits}
use Rattle.model.specs.Runs.{TurnsBelow}
use Rattle.model.specs.Schedules.{steps_of, most_steps, most_bytes}
use Rattle.model.specs.Walk.{Step}

-- What a step's line shows fits its columns.
pub record StepFits (n turn rule shared : ℕ) : Type 0 where
  pub number : n < 10000
  pub turns : turn < 10
  pub rules : rule < 100
  pub states : shared < 10

-- Turn numbers never fall, and the first is at least t.
abbrev pub Rises : ℕ → List Step → Type 0
Rises t [] = Unit {0}
Rises t (s ∷ ss) = (t ≤ s.turn) × Rises s.turn ss

-- What a foot shows fits its columns: at most 4,095 steps, made in at most 6 turns, and in some turn if there is a step.
pub record FootFits (steps turns : ℕ) : Type 0 where
  pub most : steps ≤ most_steps
  pub few : turns ≤ 6
  pub some : 0 < steps → 0 < turns

-- A schedule can be put on a page: its model is in range, it has no more than 4,095 steps, and their turns are below 2K and never
-- fall. Replay accepts no other (a law).
pub record Pageable (m : Model) (l : List ℕ) : Type 0 where
  pub fits : Fits m
  pub most : length l ≤ most_bytes
  pub rises : Rises 0 (steps_of l)
  pub below : TurnsBelow (2 * m.k) (steps_of l)
