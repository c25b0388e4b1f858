-- `from_head` meets its contract: with nothing under the symbol the lowest level is all that must be known.
use native.Mathlib.Omega.{arith}
use Rattle.run.proofs.Threads.{ground_ready}
use Rattle.run.proofs.steps.from_head.Goals as goal

pub stretch-requires : goal.stretch-requires
stretch-requires c = (c.requires.fits, omega (arith, c.requires.room), omega (arith, c.requires.room))

pub returns : goal.returns
returns c =
    let none = c.requires.room.0 in
    λ w g. rw none at (c.stretch.ensures w (ground_ready w c.ground.ensures none g))
