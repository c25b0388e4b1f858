-- `put_clear` meets its contract: `clear`, and then the lines of the lengths.
use Rattle.writer.proofs.Outputs.{◌then◌}
use Rattle.report.proofs.lines.put_clear.Goals as goal

pub returns-clause-text : goal.returns-clause-text
returns-clause-text c = c.bytes.ensures then c.put_counts.ensures.text
