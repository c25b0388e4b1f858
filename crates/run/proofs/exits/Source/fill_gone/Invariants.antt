-- `fill_gone` meets its contract. The invariant: the cells of the controls below q are filled.
use Prim.Native.Nat.{◌+◌}
use Rattle.run.specs.Filled.{Extends}
use Rattle.run.proofs.exits.Source.fill_gone.Given as goal

abbrev pub invariant-loop-q : goal.invariant-loop-q
invariant-loop-q l = Extends l.self.table.cells.now l.self.plan.now l.at (l.at + l.q) l.initial.exits l.exits
