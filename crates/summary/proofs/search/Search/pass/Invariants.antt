-- `pass` meets its contract. The invariant: the rules are relaxed from the controls with flags below f.
use Rattle.summary.specs.Searches.{EdgesFrom}
use Rattle.summary.proofs.Loops.{Turning}
use Rattle.summary.proofs.search.Search.pass.Given as goal

abbrev pub invariant-loop-f : goal.invariant-loop-f
invariant-loop-f l = Turning 270336 (EdgesFrom l.self) l.flags l.initial.table l.table l.changes l.f
