-- `first` meets its contract: what the reader of the front tells is the tray's first record, which stands at its front.
use native.Mathlib.Omega.{arith}
use Rattle.tray.proofs.Fronts.{stands}
use Rattle.tray.proofs.first.Goals as goal

pub returns-clause-stands : goal.returns-clause-stands
returns-clause-stands c = stands c.args.tray.now c.in_ok-found.ensures (omega (arith, c.type_inv.tray 0))
