-- `count` meets its contract. The invariant: so many records are read, and the rest is still to be read (`Passed`).
use lib.ListN.{length}
use Rattle.batch.proofs.Counting.{Passed}
use Rattle.batch.proofs.whole.count.Given as goal

abbrev pub invariant-loop-found : goal.invariant-loop-found
invariant-loop-found l = Passed l.tray l.rest l.n

abbrev pub decreases-loop-found : goal.decreases-loop-found
decreases-loop-found l = length l.rest
