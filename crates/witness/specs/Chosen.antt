-- What is asked for the schedule of a line.
use Rattle.std.specs.Prelude.{ℕ, ◌+◌, ◌*◌, ◌^◌, ◌≤◌, ◌<◌}
use Rattle.model.specs.declared.Model.{Model}
use Rattle.model.specs.declared.ThreadId.{ThreadId}
use Rattle.model.specs.declared.ThreadId.TheVariants.{A, B}
use Rattle.model.specs.Lines.{digits}
use Rattle.model.specs.Schedules.{most_steps}
use Rattle.model.specs.Walk.{thread_of}
use Rattle.costs.specs.Cost.{ViewCost}

-- A full line, by its value, and the least steps of each thread along it to the top that the model names: together no more than a
-- schedule has room for.
pub record Chosen (m : Model) (v x y : ℕ) : Type 0 where
  pub low : v < m.g ^ (2 * m.k)
  pub a : ViewCost m A m.a.top (digits m.g (2 * m.k) v) x
  pub b : ViewCost m B m.b.top (digits m.g (2 * m.k) v) y
  pub most : x + y ≤ most_steps

-- The same for one thread.
pub record ChosenBy (m : Model) (id : ThreadId) (v n : ℕ) : Type 0 where
  pub low : v < m.g ^ (2 * m.k)
  pub cost : ViewCost m id (thread_of id m).top (digits m.g (2 * m.k) v) n
  pub most : n ≤ most_steps
