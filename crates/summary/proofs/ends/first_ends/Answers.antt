use Rattle.summary.proofs.Capped.{ready_on}
use Rattle.summary.proofs.Loops.{starts, turns, ends}
use Rattle.summary.proofs.ends.first_ends.Goals as goal

pub loop-o-init : goal.loop-o-init
loop-o-init c = starts _ _ _ _

pub ends_from-changes-requires-clause-ready : goal.ends_from-changes-requires-clause-ready
ends_from-changes-requires-clause-ready c = ready_on c.loop-o.invariant.relaxed c.requires

pub loop-o-preserved : goal.loop-o-preserved
loop-o-preserved c = turns c.loop-o.invariant c.loop-o-test.true c.ends_from-changes.ensures.0 c.ends_from-changes.ensures.1

pub returns : goal.returns
returns c = rw c.free_of-states.ensures at (ends c.loop-o.invariant c.loop-o-test.false).0
