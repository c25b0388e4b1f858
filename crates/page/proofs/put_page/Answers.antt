-- `put_page` meets its contract: the lines of the steps, walked from the start, and then the foot.
use native.Mathlib.Omega.{arith}
use Rattle.model.proofs.Stores.{length_steps}
use Rattle.writer.proofs.Outputs.{◌then◌}
use Rattle.page.specs.Page.{page_of}
use Rattle.page.proofs.Turns.{foot_fits}
use Rattle.page.proofs.Widths.{length_foot}
use Rattle.page.proofs.put_page.Goals as goal

pub put_foot-requires-clause-fits : goal.put_foot-requires-clause-fits
put_foot-requires-clause-fits c = rw c.turns.ensures (foot_fits c.requires.pageable)

pub put_foot-requires-clause-room : goal.put_foot-requires-clause-room
put_foot-requires-clause-room c =
    let fits = rw (← c.turns.ensures) at (foot_fits c.requires.pageable) in
    omega (arith, length_foot _ _ fits, c.put_steps.ensures.low, c.put_steps.ensures.lines.size)

pub returns : goal.returns
unfolding page_of
returns c =
    let lines = rw c.start-start.ensures.config at c.put_steps.ensures.lines in
    rw (length_steps, ← c.turns.ensures) (lines then c.put_foot.ensures)
