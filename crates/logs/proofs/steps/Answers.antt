use native.Mathlib.Omega.{arith}
use Rattle.logs.proofs.Following.{goes_on}
use Rattle.logs.proofs.steps.Goals as goal

pub loop-byte-preserved : goal.loop-byte-preserved
loop-byte-preserved c =
    let made = c.in_ok-w.ensures in
    goes_on c.loop-byte.invariant (omega arith) made.by made.grows
