-- `cross_pushes` meets its contract. The invariant: the controls below q are relaxed.
use Prim.Native.Nat.{◌+◌, ◌*◌}
use Rattle.summary.specs.Cells.{lane, gone}
use Rattle.summary.specs.Edges.{Row}
use Rattle.summary.proofs.Loops.{Turning}
use Rattle.summary.proofs.cross.cross_pushes.Given as goal

abbrev pub invariant-loop-q : goal.invariant-loop-q
invariant-loop-q l =
    Turning 256 (λ q. Row 1 (lane l.second l.step.from l.step.symbol 0) (lane l.first l.step.to l.push.a.0 (gone q) + l.l) (lane l.first q l.push.b.0 0) (l.shape.dests * 16)) l.shape.controls l.initial.table l.table l.changes l.q
