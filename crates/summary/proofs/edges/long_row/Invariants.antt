-- `long_row` meets its contract. The invariant: the edges below d are relaxed, as far as there are so many.
use Prim.Native.Nat.{◌≤◌, ◌-◌}
use Rattle.std.specs.Prelude.{min}
use Rattle.summary.specs.Edges.{Relaxed, Row}
use Rattle.summary.proofs.edges.long_row.Given as goal

abbrev pub invariant-loop-d : goal.invariant-loop-d
invariant-loop-d l =
    (l.changes ≤ l.d) × (l.changes ≤ l.count) × Relaxed (Row l.w l.to l.a l.b (min l.d l.count)) l.initial.table l.table l.changes

abbrev pub decreases-loop-d : goal.decreases-loop-d
decreases-loop-d l = l.count - l.d
