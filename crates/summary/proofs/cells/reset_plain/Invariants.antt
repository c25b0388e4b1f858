-- `reset_plain` meets its contract. The invariant: the cells of the first k controls and symbols are blank.
use Prim.Native.Nat.{◌*◌, ◌≤◌}
use Rattle.summary.specs.Cells.{Reset}
use Rattle.summary.proofs.cells.reset_plain.Given as goal

abbrev pub invariant-loop-k : goal.invariant-loop-k
invariant-loop-k l = (l.k ≤ l.nodes) × Reset l.controls 0 (16 * l.k) l.initial.table l.table
