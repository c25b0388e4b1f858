-- `fill_place` meets its contract. The invariant: the rows of the symbols below this one are filled.
use Prim.Native.Nat.{◌+◌, ◌*◌}
use Rattle.run.specs.Exits.{row_of}
use Rattle.run.specs.Filled.{FilledTo}
use Rattle.run.proofs.exits.Source.fill_place.Given as goal

abbrev pub invariant-loop-symbol : goal.invariant-loop-symbol
invariant-loop-symbol l = FilledTo l.self.table.cells.now l.self.plan.now l.self.dest (row_of (8 * l.j + l.p) l.symbol) l.exits
