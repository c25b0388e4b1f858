-- `put_pair` meets its contract: the first number, and then the line's rest.
use Rattle.writer.proofs.Outputs.{◌then◌}
use Rattle.report.specs.Text.{pair_line}
use Rattle.report.proofs.lines.put_pair.Goals as goal

pub returns : goal.returns
unfolding pair_line
returns c = c.put_number.ensures then c.put_line.ensures
