-- `top_edges` meets its contract: where no top is named there is no edge.
use Rattle.summary.proofs.Relaxing.{unchanged}
use Rattle.summary.proofs.ends.top_edges.Goals as goal

pub returns-in-None : goal.returns-in-None
returns-in-None c = rw c.in-None.is (unchanged _)
