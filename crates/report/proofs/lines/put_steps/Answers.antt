use Rattle.report.proofs.Listing.{listed_start, listed_room, listed_next, listed_end}
use Rattle.report.proofs.lines.put_steps.Goals as goal

pub loop-i-init : goal.loop-i-init
loop-i-init c = listed_start _ _ c.requires

pub put_step-requires : goal.put_step-requires
put_step-requires c = listed_room c.loop-i.invariant c.loop-i-test.true

pub loop-i-preserved : goal.loop-i-preserved
loop-i-preserved c = listed_next c.loop-i.invariant c.loop-i-test.true c.put_step.ensures

pub returns : goal.returns
returns c = listed_end c.loop-i.invariant c.loop-i-test.false
