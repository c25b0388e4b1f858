-- `put_foot` meets its contract: its parts are put one after another, and each number fits its columns.
use native.Mathlib.Omega.{arith}
use lib.ListN.{length-append}
use Rattle.writer.proofs.Outputs.{◌then◌}
use Rattle.page.specs.Page.{foot_line}
use Rattle.page.proofs.Widths.{steps_fit, turns_fit}
use Rattle.page.proofs.foot.put_foot.Goals as goal

pub put_column-requires : goal.put_column-requires
unfolding foot_line
put_column-requires c = (steps_fit c.requires.fits, omega (arith, simp length-append at c.requires.room))

pub put_column-requires-2 : goal.put_column-requires-2
unfolding foot_line
put_column-requires-2 c = (turns_fit c.requires.fits, omega (arith, simp length-append at c.requires.room))

pub returns : goal.returns
unfolding foot_line
returns c =
    c.put_column.ensures then c.put_column-2.ensures then c.put_average.ensures then c.repeat.ensures then c.byte.ensures
