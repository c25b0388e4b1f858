-- `put_step` meets its contract: the number of the turn, and then a line with the letter of its thread.
use native.Mathlib.Omega.{arith}
use lib.ListN.{length-append}
use Rattle.writer.proofs.Outputs.{◌then◌}
use Rattle.report.specs.Text.{step_line}
use Rattle.report.proofs.lines.put_step.Goals as goal

pub put_number-requires : goal.put_number-requires
unfolding step_line
put_number-requires c = omega (arith, simp length-append at c.requires)

pub put_line-requires : goal.put_line-requires
unfolding step_line
put_line-requires c = omega (arith, simp length-append at (rw (← c.letter_of.ensures) at c.requires))

pub returns : goal.returns
unfolding step_line
returns c = rw (← c.letter_of.ensures) (c.put_number.ensures then c.put_line.ensures)
