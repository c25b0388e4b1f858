-- What is asked for a thread's steps along a line, what is prepared for them, and where they start.
use Rattle.std.specs.Prelude.{List, ◌≡◌, ℕ, ◌+◌, ◌≤◌, ◌<◌, length}
use Rattle.model.specs.Schedules.{most_steps}
use Rattle.costs.specs.declared.side.Side.{Side}
use Rattle.costs.specs.Ends.{ends_of, first_state, last_state}
use Rattle.costs.specs.Lanes.{SideLeast, Value, line_of}
use Rattle.summary.specs.Cells.{size, stays_of}
use Rattle.summary.specs.Control.{Inside, Summed}
use Rattle.run.specs.declared.plan.Plan.{Plan}
use Rattle.run.specs.declared.steps.Start.{Start}
use Rattle.run.specs.Plan.{ends_in, Planned}

-- A full line of a thread's side, by its value, and the least steps of the thread along it to its top.
pub record ChosenFor (side : Side) (v count : ℕ) : Type 0 where
  pub low : Value side v
  pub least : SideLeast side side.system.top v count
  pub most : count ≤ most_steps

-- The plan of a thread along the full line whose value is v, and the table that is solved for its turn ends and the thread's top.
pub record Prepared (side : Side) (v : ℕ) (table : List ℕ) (plan : Plan) : Type 0 where
  pub size : size plan.controls ≤ length table
  pub planned : Planned side.system.th side.id plan
  pub states : plan.states ≡ side.system.g
  pub turn_ends : plan.n ≡ side.n
  pub ends : (j : ℕ) → j < side.n → ends_in plan j ≡ ends_of side.id (line_of side v) j
  pub summed : Inside side.system.g side.n (ends_in plan) → Summed side.system.th side.system.top side.system.g side.n (ends_in plan) table

-- Where a thread starts along such a line: at its first turn's state with one symbol; and the destination of its end, where its last turn
-- ends under its top.
pub record Starts (side : Side) (v : ℕ) (r : Start) : Type 0 where
  pub head : r.head
      ≡ record { passed = 0; control = first_state side.id side.start (line_of side v); symbol = side.system.th.first.0; under = 0 }
  pub dest : r.dest ≡ stays_of side.system.top + last_state side.id side.n (line_of side v)
  pub first : first_state side.id side.start (line_of side v) < side.system.g
  pub last : last_state side.id side.n (line_of side v) < side.system.g
