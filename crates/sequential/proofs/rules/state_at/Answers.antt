-- `state_at` meets its contract: the counter and up to three copies, one by one.
use mathlib.Core.Path.{ap}
use Rattle.sequential.specs.Allowed as allowed
use Rattle.sequential.proofs.Rooms.{made_copies}
use Rattle.sequential.proofs.rules.state_at.Goals as goal

pub returns-clause-state : goal.returns-clause-state
returns-clause-state c =
    ap (allowed.at c.args.counter)
    (made_copies _ _ _ c.requires.fits.k.1 c.state-first.ensures.0 c.state-second.ensures.0 c.state-third.ensures.0)
