-- `turns` meets its contract. The invariant: the turns that have ended, and those that end from place i on, are all of them.
use mathlib.Core.Path.{◌≡◌}
use Prim.Native.Nat.{◌+◌, ◌≤◌}
use Rattle.model.specs.Schedules.{steps_of, steps_from}
use Rattle.page.specs.Page.{turns_in}
use Rattle.page.proofs.foot.turns.Given as goal

abbrev pub invariant-loop-i : goal.invariant-loop-i
invariant-loop-i l = (l.count ≤ l.i) × (l.count + turns_in (steps_from l.schedule l.i) ≡ turns_in (steps_of l.schedule))
