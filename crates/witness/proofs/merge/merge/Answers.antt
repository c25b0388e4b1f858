use Rattle.std.proofs.Common.{rules}
use Prim.Native.Nat.{◌/◌, ◌<◌}
use native.Mathlib.Omega.{arith}
use lib.ListN.{length}
use Rattle.witness.proofs.Sides.{sides_start, sides_first, sides_second, sides_end}
use Rattle.witness.proofs.merge.merge.Goals as goal
use Rattle.witness.proofs.merge.merge.Goals.{then-first_next, else-first_next}

pub loop-at-init : goal.loop-at-init
loop-at-init c = (sides_start _ _ _, search rules)

pub put-requires : goal.put-requires
put-requires c =
    let next = rw c.if-first_next.true at c.first_next.ensures in
    let more : c.loop-at.i < length c.args.a.now / 2 = next.0 in
    (omega arith, omega arith)

pub put-requires-else-first_next : goal.put-requires-else-first_next
put-requires-else-first_next c =
    let next = rw c.if-first_next.false at c.first_next.ensures in
    let more : c.loop-at.j < length c.args.b.now / 2 = next.0 in
    (omega arith, omega arith)

pub loop-at-preserved : goal.loop-at-preserved
loop-at-preserved c =
    elim c.if-first_next.branch [
      | then-first_next w ↦
          let next = rw w.if-first_next.true at c.first_next.ensures in
          rw (w.out-is, w.i-is, w.j-is) (sides_first c.loop-at.invariant.0 next (rw c.loop-at.invariant.1 at w.put.ensures), omega arith)
      | else-first_next w ↦
          let next = rw w.if-first_next.false at c.first_next.ensures in
          rw (w.out-is, w.i-is, w.j-is)
          (sides_second c.loop-at.invariant.0 next (rw c.loop-at.invariant.1 at w.put-else-first_next.ensures), omega arith)
    ]

pub returns : goal.returns
returns c = sides_end c.loop-at.invariant.0 (search rules)
