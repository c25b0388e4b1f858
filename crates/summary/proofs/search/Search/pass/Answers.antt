use native.Mathlib.Omega.{arith}
use Rattle.summary.proofs.Capped.{ready_on}
use Rattle.summary.proofs.Loops.{starts, turns, ends}
use Rattle.summary.proofs.search.Search.pass.Goals as goal

pub loop-f-init : goal.loop-f-init
loop-f-init c = starts _ _ _ _

pub pass_from-changes-requires-clause-ready : goal.pass_from-changes-requires-clause-ready
pass_from-changes-requires-clause-ready c = ready_on c.loop-f.invariant.relaxed c.requires

pub loop-f-preserved : goal.loop-f-preserved
loop-f-preserved c = turns c.loop-f.invariant c.loop-f-test.true c.pass_from-changes.ensures.0 c.pass_from-changes.ensures.1

pub returns : goal.returns
returns c =
    let done = ends c.loop-f.invariant c.loop-f-test.false in
    let flags = c.flags_of-flags.ensures in
    (rw flags.0 at done.0, omega (arith, done.1, flags.1))
