-- `fill` meets its contract. The invariant: the exits of the turns below j are filled.
use Prim.Native.Nat.{◌*◌}
use Rattle.run.specs.Exits.{row_of}
use Rattle.run.specs.Filled.{FilledTo}
use Rattle.run.proofs.exits.Source.fill.Given as goal

abbrev pub invariant-loop-j : goal.invariant-loop-j
invariant-loop-j l = FilledTo l.self.table.cells.now l.self.plan.now l.self.dest (row_of (8 * l.j) 0) l.exits
