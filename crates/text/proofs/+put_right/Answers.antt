use Rattle.writer.proofs.Outputs.{◌then◌}
use Rattle.text.proofs.Columns.{right_one, right_more}
use Rattle.text.proofs.+put_right.Goals as goal

pub returns-then-n-lt10 : goal.returns-then-n-lt10
returns-then-n-lt10 t c = rw (right_one _ _ c.if-n-lt10.true) (c.repeat.ensures then c.byte.ensures)

pub returns-else-n-lt10 : goal.returns-else-n-lt10
returns-else-n-lt10 t c = rw (right_more _ _ c.if-n-lt10.false) (c.put_right.ensures then c.byte-else-n-lt10.ensures)
