-- What is solved for one turn end stays so.
use Rattle.summary_vectors.specs.Solved.{FirstSolved}
use Rattle.summary_vectors.proofs.slices_from.Given as goal

abbrev pub invariant-loop-i : goal.invariant-loop-i
invariant-loop-i l = FirstSolved l.system l.t
