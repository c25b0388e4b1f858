use mathlib.Core.Path.{◌∙◌}
use Prim.Native.Nat.{◌+◌}
use native.Mathlib.Nat.{le_refl, le_antisymm}
use Rattle.std.proofs.Common.{rules}
use Rattle.summary.proofs.Rows.{counted, row_turn, row_start, row_idle}
use Rattle.summary.proofs.Capped.{within}
use Rattle.summary.proofs.edges.row.Goals as goal

pub returns-then-x-gt-CAP : goal.returns-then-x-gt-CAP
returns-then-x-gt-CAP c = (row_idle _ _ _ _ _ _ c.if-x-gt-CAP.true, search rules)

pub loop-d-init : goal.loop-d-init
loop-d-init c = (search rules, search rules, search rules, row_start _ _ _ _ _)

pub better-new-requires : goal.better-new-requires
better-new-requires c =
    let args = c.args in
    let loop = c.loop-d in (
      search rules,
      (within {u = loop.table} loop.invariant.3.low c.requires.source (le_refl _)).most (args.b + loop.d) (search rules),
      (within {u = loop.table} loop.invariant.3.low c.requires.goal (le_refl _)).most (args.to + loop.d) (search rules),
    )

pub loop-d-preserved : goal.loop-d-preserved
loop-d-preserved c =
    let loop = c.loop-d in (
      search rules,
      search rules,
      search rules,
      rw (c.from-changes.ensures ∙ counted _) (row_turn loop.invariant.3 c.if-x-gt-CAP.false (search rules) _ c.better-new.ensures),
    )

pub returns : goal.returns
returns c =
    let loop = c.loop-d in
    (rw (le_antisymm loop.invariant.0 c.loop-d-test.false) at loop.invariant.3, search rules)
