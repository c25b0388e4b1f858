-- `put_line` meets its contract: word, number and line end are put one after another.
use Rattle.writer.proofs.Outputs.{◌then◌}
use Rattle.text.specs.Text.{line}
use Rattle.text.proofs.put_line.Goals as goal

pub returns : goal.returns
unfolding line
returns c = c.bytes.ensures then c.put_number.ensures then c.byte.ensures
