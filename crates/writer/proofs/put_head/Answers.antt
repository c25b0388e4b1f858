-- `put_head` meets its contract: the fields put one after another are the head.
use Rattle.writer.specs.Writer.{head_bytes}
use Rattle.writer.proofs.Outputs.{◌then◌}
use Rattle.writer.proofs.put_head.Goals as goal

pub returns : goal.returns
unfolding head_bytes
returns c =
    rw (← c.map_byte.ensures)
    (c.byte.ensures then c.field.ensures then c.field-2.ensures then c.field-3.ensures
    then c.put_target.ensures then c.field-4.ensures then c.field-5.ensures)
