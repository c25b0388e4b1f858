-- `close_first` meets its contract: turn ends lead from the first part to the second, rules lead to the second from both.
use Rattle.summary.specs.Cells.{first}
use Rattle.summary.specs.Shapes.{sizes}
use Rattle.summary.proofs.Capped.{ready_on}
use Rattle.summary.proofs.Exacts.{first_summed}
use Rattle.summary.proofs.Pushdowns.{ready_reset, shaped, first_of}
use Rattle.summary.proofs.pushdown.Pushdown.close_first.Goals as goal

pub first_ends-requires : goal.first_ends-requires
first_ends-requires c =
    let reset = rw (c.first_of-first.ensures, c.second_of.ensures) at c.reset_part.ensures in
    ready_reset first c.args.self.now.controls c.requires.room c.requires.plain reset

pub settle-requires : goal.settle-requires
settle-requires c =
    let reset = rw (c.first_of-first.ensures, c.second_of.ensures) at c.reset_part.ensures in
    rw c.first_of-first.ensures
    (ready_on c.first_ends.ensures (ready_reset first c.args.self.now.controls c.requires.room c.requires.plain reset))

pub returns : goal.returns
returns c =
    let p = c.args.self.now in
    let reset = rw (c.first_of-first.ensures, c.second_of.ensures) at c.reset_part.ensures in
    let settle = rw c.first_of-first.ensures at c.settle.ensures in
    let solved = first_of p (sizes p.shape) (shaped p) c.requires.plain reset c.first_ends.ensures settle in
    record { solved = solved; exact = first_summed p.fits p.top_in p.some p.four solved }
