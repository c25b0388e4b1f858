use native.Mathlib.Omega.{arith}
use Rattle.summary.proofs.Fitting.{row_ready}
use Rattle.summary.proofs.Loops.{starts, turns, ends}
use Rattle.summary.proofs.ends.second_ends.Goals as goal

pub loop-top-init : goal.loop-top-init
loop-top-init c = starts _ _ _ _

pub long_row-changes-requires : goal.long_row-changes-requires
long_row-changes-requires c =
    let relaxed = c.loop-top.invariant.relaxed in
    row_ready relaxed c.requires.ready
    (omega (arith, c.lane_cell-in-loop-top.ensures, c.lane_cell.ensures, c.second_of-second.ensures, c.first_of-first.ensures, c.requires.ready.room, relaxed.size))

pub loop-top-preserved : goal.loop-top-preserved
loop-top-preserved c =
    turns c.loop-top.invariant c.loop-top-test.true
    (rw (c.lane_cell.ensures, c.lane_cell-in-loop-top.ensures) at c.long_row-changes.ensures.0) (omega (arith, c.long_row-changes.ensures.1))

pub returns : goal.returns
returns c = rw (c.second_of-second.ensures, c.first_of-first.ensures) at (ends c.loop-top.invariant c.loop-top-test.false).0
