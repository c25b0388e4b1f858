-- `lane_pops` meets its contract. The invariant: the destinations below d are relaxed.
use Rattle.summary.specs.Cells.{plain, lane}
use Rattle.summary.specs.Edges.{Row}
use Rattle.summary.proofs.Loops.{Turning}
use Rattle.summary.proofs.lanes.lane_pops.Given as goal

abbrev pub invariant-loop-d : goal.invariant-loop-d
invariant-loop-d l =
    Turning 16 (λ d. Row 1 (lane l.base l.step.from l.step.symbol d) (plain l.q l.push.b.0 d) l.from 16) l.step.shape.dests l.initial.table l.table l.changes l.d
