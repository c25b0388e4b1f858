-- `new` meets its contract: where no symbol stands all are in range.
use Rattle.run.proofs.Pairing.{none_fit}
use Rattle.run.proofs.levels.Levels.new.Goals as goal

pub invariant_of-result-clause-fit : goal.invariant_of-result-clause-fit
invariant_of-result-clause-fit c = none_fit 4096
