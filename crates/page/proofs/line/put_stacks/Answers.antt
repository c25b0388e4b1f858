-- `put_stacks` meets its contract: its parts are put one after another, and a stack has as many symbols as its depth.
use Rattle.walk.proofs.Stacks.{length_top}
use Rattle.writer.proofs.Outputs.{◌then◌}
use Rattle.page.specs.Page.{step_stacks}
use Rattle.page.proofs.line.put_stacks.Goals as goal

pub returns : goal.returns
unfolding step_stacks
returns c =
    rw (length_top, length_top, ← c.mark_of.ensures)
    (c.put_stack.ensures then c.byte.ensures then c.put_stack-2.ensures then (c.byte-2.ensures then c.byte-3.ensures))
