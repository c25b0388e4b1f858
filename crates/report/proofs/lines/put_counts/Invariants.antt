-- `put_counts` meets its contract. The invariant: the lines of the first n lengths stand, and the next length's bits begin at `from`.
use Rattle.report.proofs.Counting.{Tabled}
use Rattle.report.proofs.lines.put_counts.Given as goal

abbrev pub invariant-loop-n : goal.invariant-loop-n
invariant-loop-n l = Tabled l.g l.longest l.table l.initial.out l.out l.from l.n
