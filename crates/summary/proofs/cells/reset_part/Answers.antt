-- `reset_part` meets its contract: the cells from `from` up to `to` are filled with what stands for no count.
use native.Mathlib.Omega.{arith}
use Prim.Native.Nat.{◌-◌}
use lib.ListN.{drop, length-drop}
use Rattle.std.proofs.Common.{length-take-le}
use Rattle.summary.proofs.Resets.{reset_filled}
use Rattle.summary.proofs.cells.reset_part.Goals as goal

pub returns : goal.returns
returns c =
    let room = length-drop c.args.from c.args.table.now in
    let long = length-take-le (c.args.to - c.args.from) (drop c.args.from c.args.table.now) (omega arith) in
    reset_filled c.requires.0 c.requires.1 c.requires.2 (rw long at (c.fill.ensures.after (λ y h. h)))
