use mathlib.Core.Path.{refl}
use Rattle.std.proofs.Common.{rules}
use Rattle.summary.proofs.Resets.{reset_start, nodes_next}
use Rattle.summary.proofs.cells.reset_plain.Goals as goal

pub loop-k-init : goal.loop-k-init
loop-k-init c = (search rules, reset_start _ _ _)

pub loop-k-preserved : goal.loop-k-preserved
loop-k-preserved c =
    let inv = c.loop-k.invariant in
    (search rules, nodes_next inv.1 c.loop-k-test.true refl c.stay_of.ensures c.reset_node.ensures)
