-- `ends_lane` meets its contract. The invariant: the symbols below `top` are relaxed.
use Prim.Native.Nat.{◌+◌}
use Rattle.summary.specs.Cells.{plain, lane, lane_of, first, rest}
use Rattle.summary.specs.Edges.{Row, Below}
use Rattle.summary.proofs.Loops.{Turning}
use Rattle.summary.proofs.ends.ends_lane.Given as goal

abbrev pub invariant-loop-top : goal.invariant-loop-top
invariant-loop-top l =
    Turning 16 (λ γ. Below l.shape.dests (λ d. Row 0 (lane (first l.shape.controls) l.o γ d + lane_of l.o l.i) rest (plain l.i γ d) 1)) 17 l.initial.table l.table l.changes l.top
