-- `after_step` meets its contract: by the right side, the count of a level or the least over the ways above it.
use native.Mathlib.Omega.{arith}
use Rattle.run.proofs.levels.Levels.after_step.Goals as goal

pub over_level-requires : goal.over_level-requires
over_level-requires c =
    let p = c.requires in
    let f = rw c.in-Swap.is at p.2 in
    (p.0, omega (arith, f), p.1)

pub over_two-requires : goal.over_two-requires
over_two-requires c =
    let p = c.requires in
    let f = rw c.in-Push.is at p.2 in
    (p.0, omega (arith, f), omega (arith, f), p.1)

pub returns-in-Remove : goal.returns-in-Remove
returns-in-Remove c = rw c.in-Remove.is c.count.ensures.0

pub returns-in-Swap : goal.returns-in-Swap
returns-in-Swap c = rw c.in-Swap.is c.over_level.ensures.0

pub returns-in-Push : goal.returns-in-Push
returns-in-Push c =
    rw c.in-Push.is c.over_two.ensures
