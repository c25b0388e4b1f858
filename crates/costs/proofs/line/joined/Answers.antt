-- `joined` meets its contract: its tests are the definition's.
use native.Mathlib.Omega.{arith}
use borrow.Author.Tests.{le-leb, lt-leb}
use Rattle.summary.specs.Edges.{best_of}
use Rattle.summary.specs.Table.{cap}
use Rattle.costs.proofs.line.joined.Goals as goal
use Rattle.costs.proofs.line.joined.Goals.{then-x-gt-CAP-via-then-x-gt-CAP, then-x-gt-CAP-via-else-x-gt-CAP+then-y-gt-CAP}

pub returns-then-x-gt-CAP : goal.returns-then-x-gt-CAP
unfolding best_of
returns-then-x-gt-CAP c = elim c.then-x-gt-CAP.branch [
  | then-x-gt-CAP-via-then-x-gt-CAP w ↦ rw (lt-leb _ cap w.if-x-gt-CAP.true)
  | then-x-gt-CAP-via-else-x-gt-CAP+then-y-gt-CAP w ↦ rw (le-leb _ cap w.if-x-gt-CAP.false, lt-leb _ cap w.if-y-gt-CAP.true)
]

pub returns : goal.returns
unfolding best_of
returns c = rw (le-leb _ cap c.if-x-gt-CAP.false, le-leb _ cap c.if-y-gt-CAP.false) (omega arith)
