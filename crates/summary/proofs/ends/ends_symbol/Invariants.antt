-- `ends_symbol` meets its contract. The invariant: the destinations below d are relaxed.
use Prim.Native.Nat.{◌+◌}
use Rattle.summary.specs.Cells.{plain, lane, lane_of, rest}
use Rattle.summary.specs.Edges.{Row}
use Rattle.summary.proofs.Loops.{Turning}
use Rattle.summary.proofs.ends.ends_symbol.Given as goal

abbrev pub invariant-loop-d : goal.invariant-loop-d
invariant-loop-d l =
    Turning 1 (λ d. Row 0 (lane l.first l.o l.top d + lane_of l.o l.i) rest (plain l.i l.top d) 1) l.dests l.initial.table l.table l.changes l.d
