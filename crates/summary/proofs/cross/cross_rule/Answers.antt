-- `cross_rule` meets its contract: only a push has such edges.
use native.Mathlib.Omega.{arith}
use Rattle.summary.proofs.Relaxing.{unchanged}
use Rattle.summary.proofs.cross.cross_rule.Goals as goal

pub returns-in-Remove : goal.returns-in-Remove
returns-in-Remove c = (rw c.in-Remove.is (unchanged _), omega arith)

pub returns-in-Swap : goal.returns-in-Swap
returns-in-Swap c = (rw c.in-Swap.is (unchanged _), omega arith)

pub returns-in-Push : goal.returns-in-Push
returns-in-Push c = (rw c.in-Push.is c.cross_pushes.ensures.0, omega (arith, c.cross_pushes.ensures.1))
