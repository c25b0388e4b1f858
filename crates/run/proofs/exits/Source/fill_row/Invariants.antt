-- `fill_row` meets its contract. The invariant: the cells of the turns below k are filled; the cell of the end comes last.
use Prim.Native.Nat.{◌+◌, ◌*◌}
use Rattle.run.specs.Exits.{row_of}
use Rattle.run.specs.Filled.{FilledTo}
use Rattle.run.proofs.exits.Source.fill_row.Given as goal

abbrev pub invariant-loop-k : goal.invariant-loop-k
invariant-loop-k l = FilledTo l.self.table.cells.now l.self.plan.now l.self.dest (row_of (8 * l.j + l.p) l.symbol + 8 * l.k) l.exits
