-- `same_end` meets its contract: a turn end can be told by its lane.
use mathlib.Core.Path.{sym, ◌∙◌}
use borrow.Author.Tests.{eqb-true}
use Rattle.witness.proofs.Whole.{one_lane}
use Rattle.witness.proofs.same_end.Goals as goal

pub returns : goal.returns
returns c = λ e.
    let k = rw c.lines.ensures.0 at c.if-lines-old.false in
    let a = c.line.ensures in
    let b = c.line-2.ensures in
    let old = rw (a.0, a.1, a.2) at c.lane.ensures.0 in
    let new = rw (b.0, b.1, b.2) at c.lane-2.ensures.0 in
    record {
      line = c.in-Some.old;
      known = c.in-Some.is;
      low = k;
      same = one_lane c.args.side.now k c.requires (sym old ∙ (eqb-true _ _ e ∙ new));
    }
