-- `join` meets its contract: what was filled in makes the thread.
use Rattle.merge.proofs.Filling.{thread_filled}
use Rattle.merge.proofs.join.join.Goals as goal

pub returns : goal.returns
returns c = rw c.bytes_of-held.ensures (thread_filled c.args.t _ c.in_ok-count.field-0 c.in_ok-count.ensures)
