-- `to_list` meets its contract. The invariant: the outcomes below i stand in the first places of the list.
use mathlib.Core.Path.{◌≡◌}
use lib.ListN.{take}
use lib.Seq.{sets}
use Rattle.batch.proofs.to_list.Given as goal

abbrev pub invariant-loop-i : goal.invariant-loop-i
invariant-loop-i l = l.list ≡ sets l.initial.list 0 (take l.i l.all.outcomes)
