use native.Mathlib.Omega.{arith}
use Rattle.run.proofs.Raising.{grounding_one}
use Rattle.run.proofs.levels.Levels.ground.Goals as goal

pub loop-x-init : goal.loop-x-init
loop-x-init c = record { size = c.args.self.now.size; low = omega arith; done = λ y h. absurd (omega arith) }

pub loop-x-preserved : goal.loop-x-preserved
loop-x-preserved c = grounding_one c.loop-x.invariant c.loop-x-test.true c.exit.ensures.0

pub returns : goal.returns
returns c = λ x h. c.loop-x.invariant.done x (omega (arith, h, c.loop-x-test.false))
