use native.Mathlib.Omega.{arith}
use Rattle.summary.proofs.Fitting.{row_ready, plain_row}
use Rattle.summary.proofs.Loops.{starts, turns, ends}
use Rattle.summary.proofs.plain.plain_pushes.Goals as goal

pub loop-q-init : goal.loop-q-init
loop-q-init c = starts _ _ _ _

pub usual_row-changes-requires : goal.usual_row-changes-requires
usual_row-changes-requires c =
    let relaxed = c.loop-q.invariant.relaxed in
    row_ready relaxed c.requires
    (plain_row relaxed c.args.push c.requires.room c.loop-q-test.true c.gone_at.ensures.0 c.plain_cell.ensures c.plain_cell-in-loop-q.ensures
    c.plain_cell-in-loop-q-2.ensures)

pub loop-q-preserved : goal.loop-q-preserved
loop-q-preserved c =
    turns c.loop-q.invariant c.loop-q-test.true
    (rw (c.plain_cell.ensures, c.plain_cell-in-loop-q.ensures, c.gone_at.ensures.0, c.plain_cell-in-loop-q-2.ensures) at c.usual_row-changes.ensures.0)
    (omega (arith, c.usual_row-changes.ensures.1))

pub returns : goal.returns
returns c = ends c.loop-q.invariant c.loop-q-test.false
