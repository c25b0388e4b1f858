-- `base` meets its contract: by whether there are turn ends.
use Rattle.run.proofs.Bases.{base_more}
use Rattle.run.proofs.solve.base.Goals as goal

pub returns-then-n-eq0 : goal.returns-then-n-eq0
returns-then-n-eq0 c = rw c.if-n-eq0.true c.close_plain.ensures.solved

pub returns : goal.returns
returns c = let system = c.args.system.now in base_more system.th system.top system.g _ _ c.if-n-eq0.false c.close_first.ensures.solved
