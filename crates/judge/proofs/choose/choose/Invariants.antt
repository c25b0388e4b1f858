-- `choose` meets its contract. The invariant: the steps are the fewest over the lines below v.
use Rattle.judge.specs.Best.{Best}
use Rattle.judge.proofs.choose.choose.Given as goal

abbrev pub invariant-loop-v : goal.invariant-loop-v
invariant-loop-v l = Best l.g l.target l.v l.costs.a.now l.costs.b.now l.best
