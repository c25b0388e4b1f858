-- `put_rule` meets its contract: the parts put one after another are those of the rule.
use Rattle.writer.specs.Writer.{rule_bytes, weight_of}
use Rattle.writer.proofs.Outputs.{◌then◌}
use Rattle.writer.proofs.put_rule.Goals as goal

pub returns : goal.returns
unfolding rule_bytes weight_of
returns c =
    rw (← c.weight.ensures.0, ← c.symbol_bits.ensures.0)
    (c.byte.ensures then c.byte-2.ensures then c.field.ensures then c.put_symbols.ensures)
