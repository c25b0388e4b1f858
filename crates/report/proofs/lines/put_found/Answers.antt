-- `put_found` meets its contract: the head, and then the lines of the steps.
use Rattle.writer.proofs.Outputs.{◌then◌}
use Rattle.report.proofs.lines.put_found.Goals as goal

pub returns : goal.returns
returns c = c.put_head.ensures then c.put_steps.ensures
