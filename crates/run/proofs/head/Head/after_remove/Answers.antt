-- `after_remove` meets its contract: the symbol of the highest level comes on top.
use native.Mathlib.Omega.{arith}
use Rattle.run.proofs.head.Head.after_remove.Goals as goal

pub returns : goal.returns
returns c = (omega (arith, c.if-self-eq0.false), c.moved.ensures)
