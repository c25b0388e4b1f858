use native.Mathlib.Omega.{arith}
use Rattle.run.proofs.Filling.{gone_start, gone_next, gone_end}
use Rattle.run.proofs.exits.Source.fill_gone.Goals as goal

pub loop-q-init : goal.loop-q-init
loop-q-init c = gone_start _ _ _ _

pub loop-q-preserved : goal.loop-q-preserved
loop-q-preserved c =
    let p = c.requires in
    gone_next c.args.j c.args.p c.args.symbol p.2 p.3 c.args.k p.0 p.1 c.loop-q.q c.loop-q-test.true c.gone_at.ensures.0 c.stretch.ensures
    c.loop-q.invariant

pub returns : goal.returns
returns c =
    let p = c.requires in
    gone_end c.args.j c.args.p c.args.symbol p.2 p.3 c.args.k p.0 p.1 (omega arith) (omega arith) c.loop-q.invariant
