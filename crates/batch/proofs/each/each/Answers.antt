use Rattle.batch.proofs.Judging.{upto_some, upto_next, upto_all}
use Rattle.batch.proofs.each.each.Goals as goal

pub returns-in-Ok-None : goal.returns-in-Ok-None
returns-in-Ok-None c = upto_some c.loop-i.invariant c.loop-i-test.true (rw c.in-Ok-None.field-0-is at c.in-Ok-None.ensures.answer)

pub loop-i-preserved : goal.loop-i-preserved
loop-i-preserved c =
    let some = c.in-Ok-Some in
    let next = upto_next c.loop-i.invariant c.loop-i-test.true some.front (rw some.field-0-is at some.ensures.answer)
    (rw some.field-0-is at some.ensures.stands) c.one-outcome.ensures in
    rw c.used_by-used.ensures next

pub returns : goal.returns
returns c = upto_all c.loop-i.invariant c.loop-i-test.false
