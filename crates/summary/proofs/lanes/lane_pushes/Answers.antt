use native.Mathlib.Omega.{arith}
use Rattle.summary.proofs.Capped.{ready_on}
use Rattle.summary.proofs.Fitting.{row_ready, late_row}
use Rattle.summary.proofs.Loops.{starts, turns, ends}
use Rattle.summary.proofs.Relaxing.{then}
use Rattle.summary.proofs.lanes.lane_pushes.Goals as goal

pub loop-q-init : goal.loop-q-init
loop-q-init c = starts _ _ _ _

pub long_row-after-requires : goal.long_row-after-requires
long_row-after-requires c =
    let relaxed = c.loop-q.invariant.relaxed in
    row_ready relaxed c.requires.ready
    (late_row relaxed c.args.push c.requires.ready.room c.loop-q-test.true c.requires.base c.gone_at.ensures.0 c.lane_cell.ensures
    c.plain_cell.ensures c.lane_cell-in-loop-q.ensures)

pub lane_pops-before-requires-clause-ready : goal.lane_pops-before-requires-clause-ready
lane_pops-before-requires-clause-ready c =
    ready_on c.long_row-after.ensures.0 (ready_on c.loop-q.invariant.relaxed c.requires.ready)

pub loop-q-preserved : goal.loop-q-preserved
loop-q-preserved c =
    let row = c.long_row-after.ensures in
    let pops = c.lane_pops-before.ensures in
    let after = rw (c.lane_cell.ensures, c.plain_cell.ensures, c.gone_at.ensures.0, c.lane_cell-in-loop-q.ensures) at row.0 in
    turns c.loop-q.invariant c.loop-q-test.true (then after pops.0) (omega (arith, row.1, pops.1))

pub returns : goal.returns
returns c = ends c.loop-q.invariant c.loop-q-test.false
