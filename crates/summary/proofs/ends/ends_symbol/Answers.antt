use native.Mathlib.Omega.{arith}
use Rattle.summary.proofs.Loops.{starts, turns, ends}
use Rattle.summary.proofs.Fitting.{row_ready, ends_row}
use Rattle.summary.proofs.ends.ends_symbol.Goals as goal

pub loop-d-init : goal.loop-d-init
loop-d-init c = starts _ _ _ _

pub row-changes-requires : goal.row-changes-requires
row-changes-requires c =
    let relaxed = c.loop-d.invariant.relaxed in
    let inside = c.requires.inside in
    row_ready relaxed c.requires.ready
    (ends_row relaxed c.args.shape c.requires.ready.room inside.0 inside.1 inside.2 c.loop-d-test.true c.first_of-first.ensures c.lane_cell.ensures
    c.plain_cell.ensures)

pub loop-d-preserved : goal.loop-d-preserved
loop-d-preserved c =
    turns c.loop-d.invariant c.loop-d-test.true
    (rw (c.lane_cell.ensures, c.plain_cell.ensures) at c.row-changes.ensures.0) c.row-changes.ensures.1

pub returns : goal.returns
returns c =
    let done = ends c.loop-d.invariant c.loop-d-test.false in
    (rw c.first_of-first.ensures at done.0, omega (arith, done.1))
