-- `comes_before` meets its contract: bytes in order are schedules in order.
use Prim.Native.Nat.{◌*◌}
use native.Mathlib.Omega.{arith}
use lib.ListN.{take}
use lib.Seq.{length-take-le}
use Rattle.judge.proofs.Comparing.{ordered}
use Rattle.judge.proofs.compare.comes_before.Goals as goal

pub returns : goal.returns
returns c =
    let n = 2 * c.args.count in
    let p = length-take-le n c.args.fresh.now c.requires.0 in
    let q = length-take-le n c.args.kept.now c.requires.1 in
    rw c.lt.ensures (ordered (take n c.args.fresh.now) (take n c.args.kept.now) (omega arith) (omega arith))
