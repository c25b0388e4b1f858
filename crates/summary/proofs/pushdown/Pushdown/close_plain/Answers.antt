-- `close_plain` meets its contract: all edges lie in the part made blank, so what follows there follows from the blank table; the
-- edges of the named top join cells that are 0 there.
use native.Mathlib.Omega.{arith}
use Rattle.summary.specs.Shapes.{sizes}
use Rattle.summary.proofs.Capped.{ready_on, blank_counts}
use Rattle.summary.proofs.Exacts.{plain_summed}
use Rattle.summary.proofs.Pushdowns.{shaped, plain_of}
use Rattle.summary.proofs.pushdown.Pushdown.close_plain.Goals as goal

pub top_edges-requires-clause-ready : goal.top_edges-requires-clause-ready
top_edges-requires-clause-ready c =
    let reset = c.reset_plain.ensures in record { room = omega (arith, reset.size, c.requires); counts = blank_counts reset }

pub settle-requires : goal.settle-requires
settle-requires c =
    let reset = c.reset_plain.ensures in
    ready_on c.top_edges.ensures (record { room = omega (arith, reset.size, c.requires); counts = blank_counts reset })

pub returns : goal.returns
returns c =
    let p = c.args.self.now in
    let solved = plain_of p (sizes p.shape) (shaped p) c.reset_plain.ensures c.top_edges.ensures c.settle.ensures in
    record { solved = solved; exact = plain_summed p.fits p.top_in p.some p.four solved }
