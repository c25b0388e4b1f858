-- `ends_turn` meets its contract: the turn of the next step, if there is one, tells whether this one is the last of its turn.
use Prim.Native.Nat.{◌+◌, ◌/◌, ◌≤◌}
use mathlib.Core.Path.{refl}
use native.Mathlib.Omega.{arith}
use lib.ListN.{length}
use borrow.Author.Tests.{eq-eqb}
use Rattle.page.proofs.Turns.{next_tells, last_step}
use Rattle.page.proofs.foot.ends_turn.Goals as goal

pub returns-then-next-schedule : goal.returns-then-next-schedule
returns-then-next-schedule c =
    let end : length c.args.schedule.now / 2 ≤ c.args.i + 1 = omega arith in
    rw (last_step c.args.schedule.now c.requires.rises c.args.i end, eq-eqb _ _ c.if-next-schedule.true) refl

pub returns-else-next-schedule : goal.returns-else-next-schedule
returns-else-next-schedule c =
    next_tells c.args.schedule.now c.requires.rises c.args.i (omega (arith, c.requires.place, c.if-next-schedule.false))
