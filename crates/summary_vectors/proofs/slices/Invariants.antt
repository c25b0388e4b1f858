-- What is solved for one turn end stays so.
use Rattle.summary_vectors.specs.Solved.{FirstSolved}
use Rattle.summary_vectors.proofs.slices.Given as goal

abbrev pub invariant-loop-o : goal.invariant-loop-o
invariant-loop-o l = FirstSolved l.system l.t
