-- `row` meets its contract. The invariant: the edges below d are relaxed, with the fixed part as it was read at the start.
use mathlib.Core.Path.{◌≡◌}
use Prim.Native.Nat.{◌≤◌}
use lib.ListN.{length}
use Rattle.summary.specs.Edges.{Relaxed, Row}
use Rattle.summary.proofs.edges.row.Given as goal

abbrev pub invariant-loop-d : goal.invariant-loop-d
invariant-loop-d l =
    (l.d ≤ l.count) × (l.changes ≤ l.d) × (length l.table ≡ length l.initial.table) × Relaxed (Row l.w l.to l.a l.b l.d) l.initial.table l.table l.changes
