-- `over_level` meets its contract. The invariant: the count is the least over the ways by the first y places.
use Rattle.run.proofs.Overs.{Taking}
use Rattle.run.specs.Exits.{exit_at}
use Rattle.run.specs.Levels.{level_at}
use Rattle.run.proofs.levels.Levels.over_level.Given as goal

abbrev pub invariant-loop-y : goal.invariant-loop-y
invariant-loop-y l = Taking (exit_at l.course.exits l.x l.symbol) (level_at l.self.counts l.i) l.y l.best
