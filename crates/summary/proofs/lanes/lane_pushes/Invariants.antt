-- `lane_pushes` meets its contract. The invariant: the controls below q are relaxed.
use mathlib.Core.Logic.{◌⊎◌}
use Prim.Native.Nat.{◌*◌}
use Rattle.summary.specs.Cells.{plain, gone, lane}
use Rattle.summary.specs.Edges.{Row, Below}
use Rattle.summary.proofs.Loops.{Turning}
use Rattle.summary.proofs.lanes.lane_pushes.Given as goal

abbrev pub invariant-loop-q : goal.invariant-loop-q
invariant-loop-q l =
    Turning 512 (λ q e. Row 1 (lane l.base l.step.from l.step.symbol 0) (plain l.step.to l.push.a.0 (gone q)) (lane l.base q l.push.b.0 0) (l.step.shape.dests * 16) e ⊎ Below l.step.shape.dests (λ d. Row 1 (lane l.base l.step.from l.step.symbol d) (plain q l.push.b.0 d) (lane l.base l.step.to l.push.a.0 (gone q)) 16) e) l.step.shape.controls l.initial.table l.table l.changes l.q
