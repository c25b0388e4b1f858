-- `put_steps` meets its contract. The invariant: the lines of the first i steps stand, and the walk goes on from there.
use Rattle.page.proofs.Printing.{Printing}
use Rattle.page.proofs.put_steps.Given as goal

abbrev pub invariant-loop-i : goal.invariant-loop-i
invariant-loop-i l = Printing l.m l.schedule l.initial.w l.initial.a l.initial.b l.initial.out l.w l.a l.b l.out l.i
