-- `batch` meets its contract: the number is that of the call for a whole tray.
use mathlib.Core.Path.{◌≡◌}
use native.Mathlib.Omega.{arith}
use Rattle.std.proofs.Common.{rules}
use Rattle.std.specs.Prelude.{Ok, Err}
use Rattle.ffi.proofs.Replies.{says, says_refused}
use Rattle.ffi.proofs.Trays.{batch_fits, batch_answered}
use Rattle.ffi.proofs.calls.batch.Goals as goal

pub returns-in_err-n : goal.returns-in_err-n
returns-in_err-n c =
    let r = c.in_err-n.field-0.0 in
    let refused : c.from_residual.result ≡ Err r = search rules in
    rw refused (batch_answered _ _ _ _ _ (Err r) c.in_err-n.ensures (says_refused r))

pub with_field-requires : goal.with_field-requires
with_field-requires c = omega (arith, batch_fits _ _ _ _ _ c.in_ok-n.ensures)

pub returns : goal.returns
returns c =
    batch_answered _ _ _ _ _ (Ok _) c.in_ok-n.ensures (says (batch_fits _ _ _ _ _ c.in_ok-n.ensures) c.with_field.ensures)
