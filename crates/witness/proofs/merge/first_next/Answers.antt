-- `first_next` meets its contract: where one side is at its end the next step is the other's, and else the turns decide.
use native.Mathlib.Omega.{arith}
use borrow.Author.Tests.{eq-eqb, le-ltb}
use Rattle.witness.proofs.Sides.{only_first, only_second, lower}
use Rattle.witness.proofs.merge.first_next.Goals as goal

pub returns-then-j-b : goal.returns-then-j-b
returns-then-j-b c =
    let args = c.args in
    rw (eq-eqb _ _ c.if-j-b.true) (only_first args.a.now args.b.now {i = args.i} {j = args.j} c.if-j-b.true (omega arith))

pub returns-then-i-a : goal.returns-then-i-a
returns-then-i-a c =
    let args = c.args in
    lower args.a.now args.b.now (omega arith) (omega arith)

pub returns-else-i-a : goal.returns-else-i-a
returns-else-i-a c =
    let args = c.args in
    rw (le-ltb _ _ c.if-i-a.false) (only_second args.a.now args.b.now {i = args.i} {j = args.j} (omega arith) (omega arith))
