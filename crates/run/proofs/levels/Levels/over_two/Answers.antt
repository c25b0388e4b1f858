use Rattle.run.proofs.Overs.{taking_none, taking_one, taking_all}
use Rattle.run.proofs.levels.Levels.over_two.Goals as goal

pub loop-y-init : goal.loop-y-init
loop-y-init c = taking_none c.exit-best.ensures.0 c.exit-best.ensures.1

pub loop-y-preserved : goal.loop-y-preserved
loop-y-preserved c =
    taking_one c.loop-y.invariant c.loop-y-test.true c.exit.ensures.0 c.by_way-best.ensures

pub returns : goal.returns
returns c = (taking_all c.loop-y.invariant c.loop-y-test.false).0
