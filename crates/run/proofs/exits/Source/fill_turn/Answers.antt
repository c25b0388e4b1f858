use native.Mathlib.Omega.{arith}
use Rattle.run.proofs.Filling.{filled_at, turn_end}
use Rattle.run.proofs.exits.Source.fill_turn.Goals as goal

pub loop-p-init : goal.loop-p-init
loop-p-init c = filled_at (omega arith) c.requires.before

pub loop-p-preserved : goal.loop-p-preserved
loop-p-preserved c = filled_at (omega arith) c.fill_place.ensures

pub returns : goal.returns
returns c = turn_end _ _ c.requires.turn (omega arith) c.loop-p.invariant
