use native.Mathlib.Omega.{arith}
use Rattle.summary.proofs.Loops.{starts, turns, ends}
use Rattle.summary.proofs.Fitting.{row_ready, pops_row}
use Rattle.summary.proofs.lanes.lane_pops.Goals as goal

pub loop-d-init : goal.loop-d-init
loop-d-init c = starts _ _ _ _

pub row-changes-requires : goal.row-changes-requires
row-changes-requires c =
    let relaxed = c.loop-d.invariant.relaxed in
    row_ready relaxed c.requires.ready
    (pops_row relaxed c.args.push c.requires.ready.room c.requires.control c.requires.base c.loop-d-test.true c.gone_at.ensures.0 c.lane_cell.ensures
    c.plain_cell.ensures c.lane_cell-from.ensures)

pub loop-d-preserved : goal.loop-d-preserved
loop-d-preserved c =
    turns c.loop-d.invariant c.loop-d-test.true
    (rw (c.lane_cell.ensures, c.plain_cell.ensures) at c.row-changes.ensures.0) c.row-changes.ensures.1

pub returns : goal.returns
returns c =
    let done = ends c.loop-d.invariant c.loop-d-test.false in
    (rw (c.lane_cell-from.ensures, c.gone_at.ensures.0) at done.0, omega (arith, done.1))
