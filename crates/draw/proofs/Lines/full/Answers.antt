use native.Mathlib.Omega.{arith}
use Rattle.draw.proofs.Full.{reached_starts, reached_steps, reached_small, reached_ends, reached_full, product_small}
use Rattle.draw.proofs.Lines.full.Goals as goal

pub loop-power-init : goal.loop-power-init
loop-power-init c = reached_starts _ _ _ c.args.self.some_rounds

pub overflow_mul-power : goal.overflow_mul-power
overflow_mul-power c =
    omega (arith, product_small (reached_small c.args.self.four c.args.self.three c.loop-power.invariant) c.args.self.four)

pub loop-power-preserved : goal.loop-power-preserved
loop-power-preserved c = reached_steps c.requires c.loop-power-test.true c.loop-power.invariant

pub pad-requires : goal.pad-requires
pad-requires c = (omega arith, omega arith, reached_ends c.loop-power-test.false c.loop-power.invariant)

pub returns : goal.returns
returns c =
    (reached_full c.loop-power-test.false c.loop-power.invariant c.pad.ensures.0, c.pad.ensures.1)
