-- `draw` meets its contract. The invariant: the bytes below `at` hold their marks, and those beyond the table are as they were.
use Rattle.model.specs.Tables.{bytes_for}
use Rattle.draw.specs.Marks.{DrawnAt}
use Rattle.draw.proofs.Written.{Written}
use Rattle.draw.proofs.draw.Given as goal

abbrev pub invariant-loop-at : goal.invariant-loop-at
invariant-loop-at l =
    Written (DrawnAt l.fn.m.g l.fn.m.k l.costs.a.now l.costs.b.now) (bytes_for l.fn.m.g l.fn.m.k) l.initial.store l.store l.at
