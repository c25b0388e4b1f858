-- `put_target` meets its contract: the target byte, the second map and its fields, put one after another, are the target with it.
use Rattle.writer.specs.Writer.{weight_of, target_bytes}
use Rattle.writer.proofs.Outputs.{◌then◌}
use Rattle.writer.proofs.put_target.Goals as goal

pub returns : goal.returns
unfolding target_bytes weight_of
returns c =
    rw (← c.second_map-map.ensures.0, ← c.weight.ensures.0)
    (c.byte.ensures then c.field.ensures then c.put_second.ensures)
