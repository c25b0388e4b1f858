use native.Mathlib.Omega.{arith}
use Rattle.summary.proofs.Fitting.{row_ready}
use Rattle.summary.proofs.Loops.{starts, turns, ends}
use Rattle.summary.proofs.ends.named_edges.Goals as goal

pub loop-q-init : goal.loop-q-init
loop-q-init c = starts _ _ _ _

pub row-changes-requires : goal.row-changes-requires
row-changes-requires c =
    let relaxed = c.loop-q.invariant.relaxed in
    row_ready relaxed c.requires.ready (omega (arith, c.plain_cell.ensures, c.free_of-states.ensures, c.requires.ready.room, relaxed.size))

pub loop-q-preserved : goal.loop-q-preserved
loop-q-preserved c =
    turns c.loop-q.invariant c.loop-q-test.true (rw c.plain_cell.ensures at c.row-changes.ensures.0) c.row-changes.ensures.1

pub returns : goal.returns
returns c = rw c.free_of-states.ensures at (ends c.loop-q.invariant c.loop-q-test.false).0
