-- `put_head` meets its contract: the word, the steps, a space and the pair of depths, one after another.
use Rattle.writer.proofs.Outputs.{◌then◌}
use Rattle.report.specs.Text.{found_line}
use Rattle.report.proofs.lines.put_head.Goals as goal

pub returns : goal.returns
unfolding found_line
returns c = c.bytes.ensures then c.put_number.ensures then c.byte.ensures then c.put_pair.ensures
