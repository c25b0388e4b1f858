-- `run` meets its contract. The invariant: what is left of the schedule, walked from here, comes to what all of it does
-- from the start, and each stack has grown by at most one symbol a step.
use Rattle.walk.proofs.Schedules.{Going}
use Rattle.walk.proofs.run.Given as goal

abbrev pub invariant-loop-i : goal.invariant-loop-i
invariant-loop-i l = Going l.m l.schedule l.initial.w l.initial.a l.initial.b l.w l.a l.b l.i
