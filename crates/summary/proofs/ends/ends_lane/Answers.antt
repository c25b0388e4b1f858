use native.Mathlib.Omega.{arith}
use Rattle.summary.proofs.Capped.{ready_on}
use Rattle.summary.proofs.Loops.{starts, turns, ends}
use Rattle.summary.proofs.ends.ends_lane.Goals as goal

pub loop-top-init : goal.loop-top-init
loop-top-init c = starts _ _ _ _

pub ends_symbol-changes-requires-clause-ready : goal.ends_symbol-changes-requires-clause-ready
ends_symbol-changes-requires-clause-ready c = ready_on c.loop-top.invariant.relaxed c.requires.ready

pub loop-top-preserved : goal.loop-top-preserved
loop-top-preserved c =
    turns c.loop-top.invariant c.loop-top-test.true c.ends_symbol-changes.ensures.0 (omega (arith, c.ends_symbol-changes.ensures.1))

pub returns : goal.returns
returns c = ends c.loop-top.invariant c.loop-top-test.false
