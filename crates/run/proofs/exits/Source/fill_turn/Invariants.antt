-- `fill_turn` meets its contract. The invariant: the exits of the controls below p are filled.
use Prim.Native.Nat.{◌+◌, ◌*◌}
use Rattle.run.specs.Exits.{row_of}
use Rattle.run.specs.Filled.{FilledTo}
use Rattle.run.proofs.exits.Source.fill_turn.Given as goal

abbrev pub invariant-loop-p : goal.invariant-loop-p
invariant-loop-p l = FilledTo l.self.table.cells.now l.self.plan.now l.self.dest (row_of (8 * l.j + l.p) 0) l.exits
