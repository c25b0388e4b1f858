-- `put_column` meets its contract: the number and then a blank.
use Rattle.writer.proofs.Outputs.{◌then◌}
use Rattle.page.specs.Page.{column}
use Rattle.page.proofs.line.put_column.Goals as goal

pub returns : goal.returns
unfolding column
returns c = c.put_right.ensures then c.byte.ensures
