-- `named_edges` meets its contract. The invariant: the states below q are relaxed.
use Prim.Native.Nat.{◌+◌}
use Rattle.summary.specs.Cells.{plain, rest}
use Rattle.summary.specs.Edges.{Row}
use Rattle.summary.proofs.Loops.{Turning}
use Rattle.summary.proofs.ends.named_edges.Given as goal

abbrev pub invariant-loop-q : goal.invariant-loop-q
invariant-loop-q l =
    Turning 1 (λ q. Row 0 (plain q l.symbol (8 + q)) rest rest 1) l.states l.initial.table l.table l.changes l.q
