use mathlib.Core.Path.{sym}
use native.Mathlib.Nat.{le_antisymm, pow-zero}
use native.Mathlib.Omega.{arith}
use Rattle.costs.proofs.Digits.{power_small, raised}
use Rattle.costs.proofs.parts.power.Goals as goal

pub loop-init : goal.loop-init
loop-init c = sym (pow-zero _)

pub overflow_mul-r : goal.overflow_mul-r
overflow_mul-r c = omega (arith, (raised c.loop.invariant c.loop-test.true c.requires.0 c.requires.1).1)

pub loop-preserved : goal.loop-preserved
loop-preserved c = (raised c.loop.invariant c.loop-test.true c.requires.0 c.requires.1).0

pub returns : goal.returns
returns c =
    let e = le_antisymm c.loop.auto.counter-end c.loop-test.false in
    let r = rw e at c.loop.invariant in
    (r, omega (arith, r, power_small c.requires.0 c.requires.1))
