-- `put_all` meets its contract. The invariant: since the loop began, the first outcomes have been put, as many as it has come past.
use lib.ListN.{take}
use Rattle.writer.specs.Output.{Appends}
use Rattle.batch.specs.Bytes.{outcome_bytes}
use Rattle.batch.proofs.bytes.put_all.Given as goal

abbrev pub invariant-loop-outcome : goal.invariant-loop-outcome
invariant-loop-outcome l = Appends l.initial.out l.out (outcome_bytes (take l.outcome-index l.outcome-items))
