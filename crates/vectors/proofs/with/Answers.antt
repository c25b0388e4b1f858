-- The thread that is changed is what the change leaves.
use Rattle.std.proofs.Common.{rules}
use Rattle.vectors.proofs.with.Goals as goal

pub returns-in-A-clause-changed : goal.returns-in-A-clause-changed
returns-in-A-clause-changed g c = rw c.in-A.is (search rules)

pub returns-in-B-clause-changed : goal.returns-in-B-clause-changed
returns-in-B-clause-changed g c = rw c.in-B.is (search rules)
