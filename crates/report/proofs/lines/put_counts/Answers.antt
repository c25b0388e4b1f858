use native.Mathlib.Omega.{arith}
use Rattle.report.proofs.Counting.{tabled_start, tabled_bits, tabled_room, tabled_next, tabled_end}
use Rattle.report.proofs.lines.put_counts.Goals as goal

pub loop-n-init : goal.loop-n-init
loop-n-init c = tabled_start c.requires.fills c.requires.room

pub count-requires : goal.count-requires
count-requires c = tabled_bits c.loop-n.invariant c.loop-n-test.true c.power-lines.ensures.0

pub put_pair-requires : goal.put_pair-requires
put_pair-requires c = tabled_room c.loop-n.invariant c.loop-n-test.true c.count.ensures.1 c.power-lines.ensures.1

pub overflow_add-from : goal.overflow_add-from
overflow_add-from c = omega (arith, tabled_bits c.loop-n.invariant c.loop-n-test.true c.power-lines.ensures.0)

pub loop-n-preserved : goal.loop-n-preserved
loop-n-preserved c =
    let power = c.power-lines.ensures in
    tabled_next c.loop-n.invariant c.loop-n-test.true power.0 power.1 c.count.ensures.1 c.count.ensures.0 c.put_pair.ensures

pub returns-clause-text : goal.returns-clause-text
returns-clause-text c = (tabled_end c.loop-n.invariant c.loop-n-test.false).0

pub returns-clause-low : goal.returns-clause-low
returns-clause-low c = (tabled_end c.loop-n.invariant c.loop-n-test.false).1
