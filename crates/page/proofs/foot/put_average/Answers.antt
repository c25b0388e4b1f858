-- `put_average` meets its contract: blanks with no step, else both numbers, which fit their columns.
use native.Mathlib.Omega.{arith}
use lib.ListN.{length-append}
use Rattle.writer.proofs.Outputs.{◌then◌}
use Rattle.page.proofs.Widths.{whole_fits, rest_fits, average_none, average_some}
use Rattle.page.proofs.foot.put_average.Goals as goal

pub repeat-requires : goal.repeat-requires
repeat-requires c = rw (average_none _ _ c.if-steps-eq0.true) at c.requires.room

pub returns-then-steps-eq0 : goal.returns-then-steps-eq0
returns-then-steps-eq0 c = rw (average_none _ _ c.if-steps-eq0.true) c.repeat.ensures

pub put_column-requires : goal.put_column-requires
put_column-requires c =
    let room = rw (average_some _ _ c.if-steps-eq0.false) at c.requires.room in
    (whole_fits c.requires.fits, omega (arith, simp length-append at room))

pub put_column-requires-else-steps-eq0 : goal.put_column-requires-else-steps-eq0
put_column-requires-else-steps-eq0 c =
    let room = rw (average_some _ _ c.if-steps-eq0.false) at c.requires.room in
    (rest_fits c.requires.fits (c.requires.fits.some (omega arith)), omega (arith, simp length-append at room))

pub returns-else-steps-eq0 : goal.returns-else-steps-eq0
returns-else-steps-eq0 c =
    rw (average_some _ _ c.if-steps-eq0.false) (c.put_column.ensures then c.put_column-else-steps-eq0.ensures)
