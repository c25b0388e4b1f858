use native.Mathlib.Omega.{arith}
use Rattle.run.proofs.Filling.{filled_start, turns_end}
use Rattle.run.proofs.exits.Source.fill.Goals as goal

pub loop-j-init : goal.loop-j-init
loop-j-init c = filled_start c.requires

pub returns : goal.returns
returns c = turns_end _ (omega arith) c.loop-j.invariant
