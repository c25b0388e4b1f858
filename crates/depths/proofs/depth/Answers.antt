use mathlib.Core.Path.{refl}
use native.Mathlib.Omega.{arith}
use Rattle.std.proofs.Common.{rules}
use Rattle.depths.proofs.Climbing.{counting_start, counting_next}
use Rattle.depths.proofs.depth.Goals as goal

pub loop-i-init : goal.loop-i-init
loop-i-init c = counting_start _ _ _

pub loop-i-preserved : goal.loop-i-preserved
loop-i-preserved c =
    counting_next c.loop-i.invariant (omega arith) refl c.after-height.ensures (search rules)
