-- `each` meets its contract. The invariant: the records below i are judged (`Upto`).
use Rattle.batch.proofs.Judging.{Upto}
use Rattle.batch.proofs.each.each.Given as goal

abbrev pub invariant-loop-i : goal.invariant-loop-i
invariant-loop-i l = Upto l.tray l.count l.rest l.used l.i l.list l.initial.store l.store
