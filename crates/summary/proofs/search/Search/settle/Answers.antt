use native.Mathlib.Nat.{le_refl}
use native.Mathlib.Omega.{arith}
use Rattle.summary.proofs.Capped.{within}
use Rattle.summary.proofs.Loops.{opens, passes, closes}
use Rattle.summary.proofs.search.Search.settle.Goals as goal

pub loop-changes-init : goal.loop-changes-init
loop-changes-init c = opens _ _

pub pass-changes-requires : goal.pass-changes-requires
pass-changes-requires c =
    let inv = c.loop-changes.invariant in
    record { room = omega (arith, inv.size, c.requires.room); counts = within inv.low c.requires.counts (le_refl _) }

pub loop-changes-preserved : goal.loop-changes-preserved
loop-changes-preserved c = passes c.loop-changes.invariant c.pass-changes.ensures.0

pub returns : goal.returns
returns c = closes c.loop-changes.invariant c.loop-changes-test.false
