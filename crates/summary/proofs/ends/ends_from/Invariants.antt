-- `ends_from` meets its contract. The invariant: the states entered below i are relaxed.
use Prim.Native.Nat.{◌+◌}
use Rattle.summary.specs.Cells.{plain, lane, lane_of, first, rest}
use Rattle.summary.specs.Edges.{Row, Below}
use Rattle.summary.proofs.Loops.{Turning}
use Rattle.summary.proofs.ends.ends_from.Given as goal

abbrev pub invariant-loop-i : goal.invariant-loop-i
invariant-loop-i l =
    Turning 272 (λ i. Below 17 (λ γ. Below l.shape.dests (λ d. Row 0 (lane (first l.shape.controls) l.o γ d + lane_of l.o i) rest (plain i γ d) 1))) l.states l.initial.table l.table l.changes l.i
