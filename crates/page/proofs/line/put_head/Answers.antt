-- `put_head` meets its contract: its parts are put one after another, and each number fits its columns.
use Rattle.writer.proofs.Outputs.{◌then◌}
use Rattle.page.specs.Page.{step_head}
use Rattle.page.proofs.line.put_head.Goals as goal

pub returns : goal.returns
unfolding step_head
returns c =
    rw (← c.letter_of.ensures)
    (c.put_column.ensures then c.put_column-2.ensures then (c.byte.ensures then c.byte-2.ensures) then c.put_column-3.ensures then
    c.put_column-4.ensures)
