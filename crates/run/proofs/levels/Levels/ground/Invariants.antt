-- `ground` meets its contract. The invariant: the places before x are made.
use Rattle.run.proofs.Raising.{Grounding}
use Rattle.run.proofs.levels.Levels.ground.Given as goal

abbrev pub invariant-loop-x : goal.invariant-loop-x
invariant-loop-x l = Grounding l.course.exits l.self.counts l.x
