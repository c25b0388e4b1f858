-- `put_steps` meets its contract. The invariant: the lines of the first i steps stand.
use Rattle.report.proofs.Listing.{Listed}
use Rattle.report.proofs.lines.put_steps.Given as goal

abbrev pub invariant-loop-i : goal.invariant-loop-i
invariant-loop-i l = Listed l.schedule l.initial.out l.out l.i
