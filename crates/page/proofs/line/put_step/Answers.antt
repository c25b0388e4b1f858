-- `put_step` meets its contract: the head of the line, and then the stacks.
use Rattle.writer.proofs.Outputs.{◌then◌}
use Rattle.page.specs.Page.{page_line}
use Rattle.page.proofs.line.put_step.Goals as goal

pub returns : goal.returns
unfolding page_line
returns c = c.put_head.ensures then c.put_stacks.ensures
