-- `close_second` meets its contract: turn ends and pairs of parts lead from what is solved to the last part, rules lead to it
-- from the whole table.
use Rattle.summary.specs.Cells.{second}
use Rattle.summary.specs.Shapes.{sizes}
use Rattle.summary.proofs.Capped.{ready_on}
use Rattle.summary.proofs.Exacts.{second_summed}
use Rattle.summary.proofs.Pushdowns.{ready_reset, shaped, second_of}
use Rattle.summary.proofs.pushdown.Pushdown.close_second.Goals as goal

pub second_ends-requires-clause-ready : goal.second_ends-requires-clause-ready
second_ends-requires-clause-ready c =
    let reset = rw (c.second_of-second.ensures, c.size_of.ensures) at c.reset_part.ensures in
    ready_reset second c.args.self.now.controls c.requires.room c.requires.first reset

pub pass-requires : goal.pass-requires
pass-requires c =
    let reset = rw (c.second_of-second.ensures, c.size_of.ensures) at c.reset_part.ensures in
    ready_on c.second_ends.ensures (ready_reset second c.args.self.now.controls c.requires.room c.requires.first reset)

pub settle-requires : goal.settle-requires
settle-requires c =
    let reset = rw (c.second_of-second.ensures, c.size_of.ensures) at c.reset_part.ensures in
    rw c.second_of-second.ensures
    (ready_on c.pass.ensures.0
    (ready_on c.second_ends.ensures (ready_reset second c.args.self.now.controls c.requires.room c.requires.first reset)))

pub returns : goal.returns
returns c =
    let p = c.args.self.now in
    let inside = c.requires.inside in
    let reset = rw (c.second_of-second.ensures, c.size_of.ensures) at c.reset_part.ensures in
    let settle = rw c.second_of-second.ensures at c.settle.ensures in
    let both = second_of p (sizes p.shape) (shaped p) inside.0 inside.1 c.requires.first reset c.second_ends.ensures c.pass.ensures.0 settle in
    record { solved = both.1; exact = second_summed p.fits p.top_in p.some p.four both.0 }
