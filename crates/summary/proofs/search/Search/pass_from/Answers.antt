use native.Mathlib.Omega.{arith}
use Rattle.summary.proofs.Capped.{ready_on}
use Rattle.summary.proofs.Loops.{starts, turns, ends}
use Rattle.summary.proofs.Pushdowns.{rules_within}
use Rattle.summary.proofs.search.Search.pass_from.Goals as goal

pub loop-i-init : goal.loop-i-init
loop-i-init c = starts _ _ _ _

pub relax-changes-requires-clause-ready : goal.relax-changes-requires-clause-ready
relax-changes-requires-clause-ready c = ready_on c.loop-i.invariant.relaxed c.requires.ready

pub relax-changes-requires-clause-rule : goal.relax-changes-requires-clause-rule
relax-changes-requires-clause-rule c =
    rw c.is_held-held.ensures ((rules_within c.args.self.system.now).rules _ c.loop-i-test.true)

pub loop-i-preserved : goal.loop-i-preserved
loop-i-preserved c =
    let rule = c.relax-changes.ensures in
    turns c.loop-i.invariant c.loop-i-test.true (rw c.is_held-held.ensures at rule.0) rule.1

pub returns : goal.returns
returns c = let done = ends c.loop-i.invariant c.loop-i-test.false in (done.0, omega (arith, done.1, c.args.self.system.now.fits.count))
