-- The exits of one thread along one line: for each control and symbol, the least steps until the symbol and all that came of it is gone at
-- each control, and the least until the run's end with something still in its place.
use Rattle.std.specs.Prelude.{List, ◌≡◌, ℕ, zero, suc, ◌+◌, ◌*◌, ◌/◌, ◌%◌, ◌≤◌, ◌<◌, min, length, get_or}
use Rattle.model.specs.declared.Thread.{Thread}
use Rattle.model.specs.declared.ThreadId.{ThreadId}
use Rattle.model.specs.Tops.{Top}
use Rattle.model.specs.Fits.{ThreadFits, TopFits}
use Rattle.model.specs.Schedules.{most_steps}
use Rattle.model.specs.Walk.{Step}
use Rattle.costs.specs.Cost.{control}
use Rattle.costs.specs.Ends.{turn_of}
use Rattle.summary.specs.Control.{Control, number, Moves, Switches, InTable, Inside}
use Rattle.summary.specs.Stretch.{pop, stay, Path}
use Rattle.summary.specs.Table.{unreached, Exact}
use Rattle.run.specs.declared.plan.Plan.{Plan}
use Rattle.run.specs.Plan.{ends_in, Planned}

-- The place of a control among 24: eight for each number of turn ends passed.
abbrev pub place : Control → ℕ
place c = 8 * c.passed + number c

-- How many cells the exits have: a row of 25 for each of 24 places and 17 symbols.
abbrev pub exits_size : ℕ
exits_size = 10200

-- Where the row of a place and a symbol starts. Its first 24 cells are for the places where the symbol is gone, the last is for the end.
abbrev pub row_of : ℕ → ℕ → ℕ
row_of x γ = (x * 17 + γ) * 25

-- A cell of such a row.
abbrev pub exit_at : List ℕ → ℕ → ℕ → ℕ → ℕ
exit_at exits x γ y = get_or exits (row_of x γ + y) 0

-- The least steps to the end: with the symbol still there, or by way of one of the first so many places, where it is gone and the rest
-- takes as many steps as is known for that place.
unfoldable pub least_over : (ℕ → ℕ) → (ℕ → ℕ) → ℕ → ℕ
least_over row rest zero = row 24
least_over row rest (suc y) = min (least_over row rest y) (row y + rest y)

-- A count is the least number of steps of the runs of a kind, as far as a schedule has room for them: up to 4,095 it is exact.
pub record Togo (Run : List Step → Type 0) (count : ℕ) : Type 0 where
  pub some : count ≤ most_steps → (ss : List Step) × Run ss × (length ss ≡ count)
  pub least : (ss : List Step) → Run ss → length ss ≤ most_steps → count ≤ length ss

-- A thread along a line: its plan, and its exits, each of which is exact.
pub record Setting (exits : List ℕ) (plan : Plan) : Type 0 where
  pub thread : Thread
  pub top : Top
  pub id : ThreadId
  pub last : ℕ
  pub named : TopFits top
  pub fits : ThreadFits plan.states thread
  pub inside : Inside plan.states plan.n (ends_in plan)
  pub planned : Planned thread id plan
  -- the symbol is gone at a control
  pub gone : (c q : Control) (γ : ℕ) → InTable plan.controls plan.n c → InTable plan.controls plan.n q → γ ≤ 16
      → Exact (Moves thread (turn_of id)) (Switches (ends_in plan) plan.n) c γ (pop q) (exit_at exits (place c) γ (place q))
  -- something stands in its place at the end
  pub stays : (c : Control) (γ : ℕ) → InTable plan.controls plan.n c → γ ≤ 16
      → Exact (Moves thread (turn_of id)) (Switches (ends_in plan) plan.n) c γ (stay top (control plan.n last)) (exit_at exits (place c) γ 24)
  -- a place that no control has is never reached
  pub none : (x γ y : ℕ) → x < 24 → γ ≤ 16 → y < 24 → (y % 8 < plan.controls → y / 8 ≤ plan.n → ⊥) → unreached ≤ exit_at exits x γ y

-- The runs of the thread from a control and a stack to its end along the line.
abbrev pub Runs : {exits : List ℕ} {plan : Plan} → Setting exits plan → Control → List ℕ → List Step → Type 0
Runs {plan = plan} w c stack ss =
    Path (Moves w.thread (turn_of w.id)) (Switches (ends_in plan) plan.n) w.top c stack ss (control plan.n w.last)
