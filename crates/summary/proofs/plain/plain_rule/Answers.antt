-- `plain_rule` meets its contract: each arm of the match relaxes the rows of its right side.
use native.Mathlib.Omega.{arith}
use Rattle.summary.proofs.Fitting.{row_ready}
use Rattle.summary.proofs.Relaxing.{unchanged, then}
use Rattle.summary.proofs.plain.plain_rule.Goals as goal

pub row-requires : goal.row-requires
row-requires c = row_ready (unchanged _) c.requires (omega (arith, c.plain_cell.ensures, c.gone_at.ensures, c.requires.room))

pub usual_row-requires : goal.usual_row-requires
usual_row-requires c =
    let right = rw c.in-Swap.is at c.args.step.right_in in
    row_ready (unchanged _) c.requires (omega (arith, c.plain_cell-in-Swap-2.ensures, c.plain_cell-in-Swap.ensures, right, c.requires.room))

pub usual_row-requires-in-Push : goal.usual_row-requires-in-Push
usual_row-requires-in-Push c =
    let right = rw c.in-Push.is at c.args.step.right_in in
    let pushes = c.plain_pushes-below.ensures.0 in
    row_ready pushes c.requires
    (omega (arith, c.plain_cell-in-Push-2.ensures, c.plain_cell-in-Push.ensures, right.0, c.requires.room, pushes.size))

pub returns-in-Remove : goal.returns-in-Remove
returns-in-Remove c = (rw c.in-Remove.is (rw (c.plain_cell.ensures, c.gone_at.ensures.0) at c.row.ensures.0), omega (arith, c.row.ensures.1))

pub returns-in-Swap : goal.returns-in-Swap
returns-in-Swap c =
    let row = c.usual_row.ensures in
    (rw c.in-Swap.is (rw (c.plain_cell-in-Swap.ensures, c.plain_cell-in-Swap-2.ensures) at row.0), omega (arith, row.1))

pub returns-in-Push : goal.returns-in-Push
returns-in-Push c =
    let pushes = c.plain_pushes-below.ensures in
    let row = c.usual_row-in-Push.ensures in (
      rw c.in-Push.is (then pushes.0 (rw (c.plain_cell-in-Push.ensures, c.plain_cell-in-Push-2.ensures) at row.0)),
      omega (arith, pushes.1, row.1),
    )
