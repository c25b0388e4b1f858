-- `settle` meets its contract. A pass without changes leaves every edge holding; the measure is the table's sum with
-- the last count of changes, which falls with each pass that follows a change.
use Prim.Native.Nat.{◌+◌}
use Rattle.summary.specs.Edges.{sum}
use Rattle.summary.specs.Searches.{AllEdges}
use Rattle.summary.proofs.Loops.{Closing}
use Rattle.summary.proofs.search.Search.settle.Given as goal

abbrev pub invariant-loop-changes : goal.invariant-loop-changes
invariant-loop-changes l = Closing (AllEdges l.self) l.initial.table l.table l.changes

abbrev pub decreases-loop-changes : goal.decreases-loop-changes
decreases-loop-changes l = sum l.table + l.changes
