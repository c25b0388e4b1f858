use native.Mathlib.Omega.{arith}
use Rattle.run.proofs.Filling.{row_start, row_end}
use Rattle.run.proofs.exits.Source.fill_row.Goals as goal

pub loop-k-init : goal.loop-k-init
loop-k-init c =
    let q = c.requires.row in row_start c.args.j c.args.p c.args.symbol q.1 q.2 q.0 c.requires.before

pub loop-k-preserved : goal.loop-k-preserved
loop-k-preserved c = c.fill_gone.ensures _ c.loop-k.invariant

pub returns : goal.returns
returns c =
    let q = c.requires.row in
    row_end c.args.j c.args.p c.args.symbol q.1 q.2 q.0 c.loop-k.k (omega arith) c.stretch.ensures c.loop-k.invariant
