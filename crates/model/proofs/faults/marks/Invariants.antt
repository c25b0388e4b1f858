-- `marks` meets its contract. The invariant: the rule numbers from r on are free exactly if all that the list lacks are.
use mathlib.Core.Path.{◌≡◌}
use Rattle.model.proofs.Marks.{free_on}
use Rattle.model.proofs.faults.marks.Given as goal

abbrev pub invariant-loop-r : goal.invariant-loop-r
invariant-loop-r l = free_on l.marks l.r ≡ free_on l.marks l.count
