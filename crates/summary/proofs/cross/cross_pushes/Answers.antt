use native.Mathlib.Omega.{arith}
use Rattle.summary.proofs.Loops.{starts, turns, ends}
use Rattle.summary.proofs.Fitting.{row_ready, cross_row}
use Rattle.summary.proofs.cross.cross_pushes.Goals as goal

pub loop-q-init : goal.loop-q-init
loop-q-init c = starts _ _ _ _

pub long_row-changes-requires : goal.long_row-changes-requires
long_row-changes-requires c =
    let relaxed = c.loop-q.invariant.relaxed in
    row_ready relaxed c.requires.ready
    (cross_row relaxed c.args.push c.requires.ready.room c.loop-q-test.true c.requires.lane c.first_of-first.ensures c.second_of-second.ensures
    c.gone_at.ensures.0 c.lane_cell.ensures c.lane_cell-in-loop-q.ensures c.lane_cell-in-loop-q-2.ensures)

pub loop-q-preserved : goal.loop-q-preserved
loop-q-preserved c =
    turns c.loop-q.invariant c.loop-q-test.true
    (rw (c.lane_cell.ensures, c.lane_cell-in-loop-q.ensures, c.gone_at.ensures.0, c.lane_cell-in-loop-q-2.ensures) at c.long_row-changes.ensures.0)
    (omega (arith, c.long_row-changes.ensures.1))

pub returns : goal.returns
returns c =
    let done = ends c.loop-q.invariant c.loop-q-test.false in
    rw (c.second_of-second.ensures, c.first_of-first.ensures) at done
