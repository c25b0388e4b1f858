use mathlib.Core.Path.{◌≡◌}
use native.Mathlib.Omega.{arith}
use Prim.Native.Nat.{min, ◌+◌}
use Rattle.std.proofs.Common.{rules}
use Rattle.summary.proofs.Capped.{within}
use Rattle.summary.proofs.Rows.{row_start, row_self, row_on}
use Rattle.summary.proofs.edges.long_row.Goals as goal

pub returns-then-to-b : goal.returns-then-to-b
returns-then-to-b c = (rw c.if-to-b.true (row_self _ _ _ _ _), search rules)

pub loop-d-init : goal.loop-d-init
loop-d-init c = let none : min 0 c.args.count ≡ 0 = omega arith in (search rules, search rules, rw none (row_start _ _ _ _ _))

pub row-changes-requires : goal.row-changes-requires
row-changes-requires c =
    let low = c.loop-d.invariant.2.low in
    record { fits = search rules; goal = within low c.requires.goal (search rules); source = within low c.requires.source (search rules) }

pub loop-d-preserved : goal.loop-d-preserved
loop-d-preserved c =
    let here : min c.loop-d.d c.args.count ≡ c.loop-d.d = omega arith in
    let next : min (c.loop-d.d + 64) c.args.count ≡ c.loop-d.d + c.min.result = omega arith in
    (search rules, search rules, rw next (row_on (rw here at c.loop-d.invariant.2) c.row-changes.ensures.0))

pub returns-else-to-b : goal.returns-else-to-b
returns-else-to-b c =
    let all : min c.loop-d.d c.args.count ≡ c.args.count = omega arith in (rw all at c.loop-d.invariant.2, search rules)

pub returns-else-to-b-2 : goal.returns-else-to-b-2
returns-else-to-b-2 c =
    let here : min c.loop-d.d c.args.count ≡ c.loop-d.d = omega arith in
    let all : c.loop-d.d + c.min.result ≡ c.args.count = omega arith in
    (rw all at (row_on (rw here at c.loop-d.invariant.2) c.row-changes.ensures.0), search rules)
