use mathlib.Core.Bool.{false, ◌&&◌}
use mathlib.Core.Path.{◌≡◌, sym, ◌∙◌}
use native.Mathlib.Omega.{arith}
use Rattle.merge.proofs.Along.{from_start, at-end, clashes, rest_decides, none_clash}
use Rattle.merge.proofs.join.has_clash.Goals.{else-x-via-then-x+else-x-2, else-x-via-else-x}
use Rattle.merge.proofs.join.has_clash.Goals as goal

pub loop-i-init : goal.loop-i-init
loop-i-init c = (omega arith, omega arith, rw (from_start _ _))

pub next-x-requires : goal.next-x-requires
next-x-requires c =
    let pre = c.requires in
    let inv = c.loop-i.invariant in
    (pre.0, pre.1, inv.0, inv.1, c.loop-i-test.true)

pub returns-then-x-2 : goal.returns-then-x-2
returns-then-x-2 c = sym (clashes c.next-x.ensures c.if-x.true c.if-x-2.true) ∙ c.loop-i.invariant.2

pub loop-i-smaller : goal.loop-i-smaller
loop-i-smaller c = let up = c.next-x.ensures.more in omega arith

pub loop-i-preserved : goal.loop-i-preserved
loop-i-preserved c =
    let x = c.next-x.ensures in
    let same : c.next-x.result.held && c.next-x.result.free ≡ false = elim c.else-x.branch [
      | else-x-via-then-x+else-x-2 w ↦ rw (w.if-x.true, w.if-x-2.false)
      | else-x-via-else-x w ↦ rw w.if-x.false
    ] in
    (x.low_i, x.low_j, sym (rest_decides x same) ∙ c.loop-i.invariant.2)

pub returns : goal.returns
returns c = let inv = c.loop-i.invariant in none_clash (at-end _ _ inv.0 inv.1 c.loop-i-test.false) inv.2
