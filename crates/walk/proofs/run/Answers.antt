use native.Mathlib.Omega.{arith}
use Rattle.walk.proofs.Schedules.{goes_on}
use Rattle.walk.proofs.run.Goals as goal

pub loop-i-preserved : goal.loop-i-preserved
loop-i-preserved c =
    let made = c.in_ok-w.ensures in
    goes_on c.loop-i.invariant (omega arith) made.by made.grows
