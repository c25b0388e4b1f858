use native.Mathlib.Omega.{arith}
use Rattle.summary.proofs.Capped.{ready_on}
use Rattle.summary.proofs.Loops.{starts, turns, ends}
use Rattle.summary.proofs.ends.ends_from.Goals as goal

pub loop-i-init : goal.loop-i-init
loop-i-init c = starts _ _ _ _

pub ends_lane-changes-requires-clause-ready : goal.ends_lane-changes-requires-clause-ready
ends_lane-changes-requires-clause-ready c = ready_on c.loop-i.invariant.relaxed c.requires.ready

pub loop-i-preserved : goal.loop-i-preserved
loop-i-preserved c = turns c.loop-i.invariant c.loop-i-test.true c.ends_lane-changes.ensures.0 c.ends_lane-changes.ensures.1

pub returns : goal.returns
returns c =
    let done = ends c.loop-i.invariant c.loop-i-test.false in
    (rw c.free_of-states.ensures at done.0, omega (arith, done.1, c.free_of-states.ensures))
