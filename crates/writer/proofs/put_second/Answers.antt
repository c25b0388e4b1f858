-- `put_second` meets its contract: the fields put one after another are those of the second map.
use Rattle.writer.specs.Writer.{second_fields}
use Rattle.writer.proofs.Outputs.{◌then◌}
use Rattle.writer.proofs.put_second.Goals as goal

pub returns : goal.returns
unfolding second_fields
returns c =
    c.put_top.ensures then c.put_top-2.ensures then c.put_held.ensures then c.put_held-2.ensures then
    c.field.ensures then c.field-2.ensures
