use native.Mathlib.Omega.{arith}
use Rattle.std.proofs.Common.{rules}
use Rattle.page.proofs.Turns.{turns_on, turns_end, turn_byte, byte_low}
use Rattle.page.proofs.foot.turns.Goals as goal

pub overflow_add-count : goal.overflow_add-count
overflow_add-count c =
    let low = byte_low c.ends_turn.result in
    search rules

pub loop-i-preserved : goal.loop-i-preserved
loop-i-preserved c =
    let ended = turns_on c.args.schedule.now c.loop-i.i c.loop-i-test.true in
    let low = byte_low c.ends_turn.result in
    let byte = rw (c.ends_turn.ensures, turn_byte) at c.from-count.ensures in
    (omega arith, omega (arith, c.loop-i.invariant.1))

pub returns : goal.returns
returns c = omega (arith, turns_end c.args.schedule.now c.loop-i.i c.loop-i-test.false)
