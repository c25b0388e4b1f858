-- `reset_node` meets its contract. The invariant: the cells below d are blank, and those before the sixteen are kept.
use Prim.Native.Nat.{◌≤◌}
use Rattle.summary.specs.Cells.{ResetNode}
use Rattle.summary.proofs.cells.reset_node.Given as goal

abbrev pub invariant-loop-d : goal.invariant-loop-d
invariant-loop-d l = (l.d ≤ 16) × ResetNode l.from l.stay l.d l.initial.table l.table
