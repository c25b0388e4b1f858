-- `second_ends` meets its contract. The invariant: the symbols below `top` are relaxed.
use Prim.Native.Nat.{◌*◌}
use Rattle.summary.specs.Cells.{lane, rest}
use Rattle.summary.specs.Edges.{Row}
use Rattle.summary.proofs.Loops.{Turning}
use Rattle.summary.proofs.ends.second_ends.Given as goal

abbrev pub invariant-loop-top : goal.invariant-loop-top
invariant-loop-top l =
    Turning 256 (λ γ. Row 0 (lane l.second l.o γ 0) rest (lane l.first l.i γ 0) (l.shape.dests * 16)) 17 l.initial.table l.table l.changes l.top
