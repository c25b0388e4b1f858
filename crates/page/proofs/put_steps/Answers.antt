use native.Mathlib.Omega.{arith}
use Rattle.page.proofs.Printing.{printing_start, line_fits, line_room, printing_next, printing_stops, printing_ends}
use Rattle.page.proofs.put_steps.Goals as goal

pub loop-i-init : goal.loop-i-init
loop-i-init c =
    printing_start (record { pageable = c.requires.pageable; stacks = c.requires.stacks; room = c.requires.room })

pub returns-in_default-clause-lines : goal.returns-in_default-clause-lines
returns-in_default-clause-lines c = printing_stops c.loop-i.invariant c.loop-i-test.true c.in_default.ensures.by

pub put_step-requires-clause-fits : goal.put_step-requires-clause-fits
put_step-requires-clause-fits c =
    let made = c.in-Ok.ensures in
    line_fits c.loop-i.invariant c.loop-i-test.true _ _ _ made.by made.grows (omega arith) (omega arith)

pub put_step-requires-clause-room : goal.put_step-requires-clause-room
put_step-requires-clause-room c =
    let made = c.in-Ok.ensures in
    line_room c.loop-i.invariant c.loop-i-test.true _ _ _ made.by made.grows (omega arith) (omega arith)

pub loop-i-preserved : goal.loop-i-preserved
loop-i-preserved c =
    let made = c.in-Ok.ensures in
    printing_next c.loop-i.invariant c.loop-i-test.true _ _ _ made.by made.grows (omega arith) (omega arith) c.put_step.ensures

pub returns-clause-lines : goal.returns-clause-lines
returns-clause-lines c = printing_ends c.loop-i.invariant c.loop-i-test.false
