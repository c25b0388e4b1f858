use native.Mathlib.Omega.{arith}
use Rattle.merge.proofs.Along.{from_start, at-end}
use Rattle.merge.proofs.Filling.{nothing, next_filled, all_filled}
use Rattle.merge.proofs.join.fill.Goals as goal

pub loop-i-init : goal.loop-i-init
loop-i-init c = (omega arith, omega arith, rw (from_start _ _) (nothing _))

pub next-x-requires : goal.next-x-requires
next-x-requires c =
    let pre = c.requires in
    let inv = c.loop-i.invariant in
    (pre.0, pre.1, inv.0, inv.1, c.loop-i-test.true)

pub loop-i-smaller : goal.loop-i-smaller
loop-i-smaller c = let up = c.next-x.ensures.more in omega arith

pub loop-i-preserved : goal.loop-i-preserved
loop-i-preserved c =
    let x = c.next-x.ensures in
    let f = c.loop-i.invariant.2 in
    (x.low_i, x.low_j, next_filled f x.same (omega (arith, f.places.padded.low, c.if-count-eq64.false)))

pub returns : goal.returns
returns c = let inv = c.loop-i.invariant in all_filled inv.2 (at-end _ _ inv.0 inv.1 c.loop-i-test.false)
