use mathlib.Core.Bool.{cond}
use mathlib.Core.Path.{◌≡◌, ◌∙◌}
use lib.Dec.{eqb}
use Rattle.std.proofs.Common.{rules}
use borrow.Author.Tests.{eq-eqb, ne_eqb}
use Rattle.summary.specs.Table.{unreached}
use Rattle.summary.proofs.Resets.{node_start, node_next}
use Rattle.summary.proofs.cells.reset_node.Goals as goal
use Rattle.summary.proofs.cells.reset_node.Goals.{then-d-stay, else-d-stay}

pub loop-d-init : goal.loop-d-init
loop-d-init c = (search rules, node_start _ _ _)

pub loop-d-preserved : goal.loop-d-preserved
loop-d-preserved c =
    let inv = c.loop-d.invariant in
    let d = c.loop-d.d in
    let stay = c.args.stay in
    let blank : c.if-d-stay.table ≡ cond (eqb d stay) 0 unreached =
    elim c.if-d-stay.branch [
      | then-d-stay w ↦ w.table-is ∙ rw (eq-eqb d stay w.if-d-stay.true)
      | else-d-stay w ↦ w.table-is ∙ rw (ne_eqb d stay w.if-d-stay.false)
    ] in
    (search rules, node_next inv.1 (search rules) blank)
