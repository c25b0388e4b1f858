use native.Mathlib.Nat.{le_antisymm}
use native.Mathlib.Omega.{arith}
use Rattle.report.proofs.Counting.{counted, counted_none, lowest}
use Rattle.report.proofs.lines.count.Goals as goal

pub loop-v-init : goal.loop-v-init
loop-v-init c = (omega arith, counted_none _)

pub loop-v-preserved : goal.loop-v-preserved
loop-v-preserved c = (omega arith, counted _ _ c.loop-v.invariant.1 (lowest _))

pub returns : goal.returns
returns c =
    let same = le_antisymm c.loop-v.auto.v-end c.loop-v-test.false in
    (rw same at c.loop-v.invariant.1, omega arith)
