-- `lane_rule` meets its contract: each arm of the match relaxes the rows of its right side.
use native.Mathlib.Omega.{arith}
use Rattle.summary.proofs.Fitting.{row_ready, swap_row, above_row}
use Rattle.summary.proofs.Relaxing.{unchanged, then}
use Rattle.summary.proofs.lanes.lane_rule.Goals as goal

pub long_row-requires : goal.long_row-requires
long_row-requires c =
    let right = rw c.in-Swap.is at c.args.step.right_in in
    let idle = unchanged _ in
    row_ready idle c.requires.ready
    (swap_row idle c.args.step c.requires.ready.room c.requires.base (omega (arith, right)) c.lane_cell.ensures c.lane_cell-in-Swap.ensures)

pub long_row-requires-in-Push : goal.long_row-requires-in-Push
long_row-requires-in-Push c =
    let right = rw c.in-Push.is at c.args.step.right_in in
    let pushes = c.lane_pushes-below.ensures.0 in
    row_ready pushes c.requires.ready
    (above_row pushes c.args.step c.requires.ready.room c.requires.base (omega (arith, right.0)) c.lane_cell-in-Push.ensures c.lane_cell-in-Push-2.ensures)

pub returns-in-Remove : goal.returns-in-Remove
returns-in-Remove c = (rw c.in-Remove.is (unchanged _), omega arith)

pub returns-in-Swap : goal.returns-in-Swap
returns-in-Swap c =
    let row = c.long_row.ensures in
    (rw c.in-Swap.is (rw (c.lane_cell.ensures, c.lane_cell-in-Swap.ensures) at row.0), omega (arith, row.1))

pub returns-in-Push : goal.returns-in-Push
returns-in-Push c =
    let pushes = c.lane_pushes-below.ensures in
    let row = c.long_row-in-Push.ensures in (
      rw c.in-Push.is (then pushes.0 (rw (c.lane_cell-in-Push.ensures, c.lane_cell-in-Push-2.ensures) at row.0)),
      omega (arith, pushes.1, row.1),
    )
