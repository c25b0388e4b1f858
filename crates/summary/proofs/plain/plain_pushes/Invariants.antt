-- `plain_pushes` meets its contract. The invariant: the controls below q are relaxed.
use Rattle.summary.specs.Cells.{plain, gone}
use Rattle.summary.specs.Edges.{Row}
use Rattle.summary.proofs.Loops.{Turning}
use Rattle.summary.proofs.plain.plain_pushes.Given as goal

abbrev pub invariant-loop-q : goal.invariant-loop-q
invariant-loop-q l =
    Turning 16 (λ q. Row 1 (plain l.step.from l.step.symbol 0) (plain l.step.to l.push.a.0 (gone q)) (plain q l.push.b.0 0) l.step.shape.dests) l.step.shape.controls l.initial.table l.table l.changes l.q
