-- What is compared grows by one while the bytes get fewer, and what differs stays within it.
use Rattle.std.proofs.Common.{◌≡◌, ◌+◌, ◌<◌, ◌≤◌, true, false, length}
use Rattle.vectors.proofs.cases.corpus.Given as goal
use Rattle.vectors.specs.Tallies.{Answers}

abbrev pub invariant-loop-cases : goal.invariant-loop-cases
invariant-loop-cases g l =
    record {
      some : 0 < length l.fn.bytes → 0 < length l.cases.rest.now + l.tally.compared;
      most : l.tally.compared + length l.cases.rest.now ≤ length l.fn.bytes;
      differ : l.tally.differ ≤ l.tally.compared;
      agree : Answers (goal.F-post g l.case) true → l.tally.differ ≡ 0;
      disagree : Answers (goal.F-post g l.case) false → l.tally.differ ≡ l.tally.compared;
    }

abbrev pub decreases-loop-cases : goal.decreases-loop-cases
decreases-loop-cases g l = length l.cases.rest.now
