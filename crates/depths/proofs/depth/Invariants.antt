-- `depth` meets its contract. The invariant: the greatest height so far, and those to come from the height here, are the greatest of all.
use Rattle.depths.proofs.Climbing.{Counting}
use Rattle.depths.proofs.depth.Given as goal

abbrev pub invariant-loop-i : goal.invariant-loop-i
invariant-loop-i l = Counting l.t l.odd l.schedule l.height l.most l.i
