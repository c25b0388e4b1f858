-- What a plan says of a thread and of its line.
use Rattle.std.specs.Prelude.{◌≡◌, ℕ, ◌<◌}
use Rattle.model.specs.declared.Rule.{Rule}
use Rattle.model.specs.declared.Thread.{Thread}
use Rattle.model.specs.declared.ThreadId.{ThreadId}
use Rattle.costs.specs.Ends.{turn_of}
use Rattle.summary.specs.Cells.{controls_of}
use Rattle.summary.specs.Control.{TurnEnd}
use Rattle.run.specs.declared.plan.Plan.{Plan}
use Rattle.run.specs.declared.plan.Switch.{Switch}
use Rattle.run.specs.Marked.{switch_at, marked_at, marked_rule}

-- The number of the thread's own turn j.
abbrev pub turn_in : Plan → ℕ → ℕ
turn_in plan j = turn_of plan.id j

-- A turn end, as the summaries have it.
abbrev pub end_by : Switch → TurnEnd
end_by s = record { leave = s.leave; enter = s.enter }

-- The turn end after the thread's own turn j, 0 or 1.
abbrev pub ends_in : Plan → ℕ → TurnEnd
ends_in plan j = end_by (switch_at plan.ends j)

-- Rule number r.
abbrev pub rule_in : Plan → ℕ → Rule
rule_in plan r = marked_at plan.rules r

-- A plan of a thread: its turns, its controls and its rules.
pub record Planned (t : Thread) (id : ThreadId) (plan : Plan) : Type 0 where
  pub turns : plan.id ≡ id
  pub count : plan.count ≡ t.count
  pub controls : plan.controls ≡ controls_of t plan.states
  pub rules : (r : ℕ) → r < t.count → rule_in plan r ≡ marked_rule t r
