-- `first_ends` meets its contract. The invariant: the states left below o are relaxed.
use Prim.Native.Nat.{◌+◌}
use Rattle.summary.specs.Cells.{plain, lane, lane_of, free_of, first, rest}
use Rattle.summary.specs.Edges.{Row, Below}
use Rattle.summary.proofs.Loops.{Turning}
use Rattle.summary.proofs.ends.first_ends.Given as goal

abbrev pub invariant-loop-o : goal.invariant-loop-o
invariant-loop-o l =
    Turning 1088 (λ o. Below (free_of l.shape.controls) (λ i. Below 17 (λ γ. Below l.shape.dests (λ d. Row 0 (lane (first l.shape.controls) o γ d + lane_of o i) rest (plain i γ d) 1)))) l.states l.initial.table l.table l.changes l.o
