-- `put_line` meets its contract: the parts of a line, one behind the other.
use Rattle.sequential.specs.Text.{rule_text}
use Rattle.writer.proofs.Outputs.{◌then◌}
use Rattle.sequential.proofs.line.put_line.Goals as goal

pub returns : goal.returns
unfolding rule_text
returns c =
    c.put_digits.ensures then c.put_symbol.ensures then (c.byte.ensures then c.put_digits-2.ensures) then c.put_new.ensures then
    c.byte-2.ensures
