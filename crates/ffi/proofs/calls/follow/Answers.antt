-- `follow` meets its contract: the number is that of the reader or of the call that follows the log.
use mathlib.Core.Path.{◌≡◌}
use native.Mathlib.Omega.{arith}
use Rattle.std.proofs.Common.{rules}
use Rattle.std.specs.Prelude.{Err}
use Rattle.ffi.proofs.Ranges.{follow_fits}
use Rattle.ffi.proofs.Records.{was_read, was_refused}
use Rattle.ffi.proofs.Replies.{says, says_refused}
use Rattle.ffi.proofs.calls.follow.Goals as goal

pub returns-in_err-m : goal.returns-in_err-m
returns-in_err-m c =
    let refused : c.from_residual.result ≡ Err c.in_err-m.field-0.0 = search rules in
    rw (refused, was_refused _ c.in_err-m.ensures.answer) (says_refused c.in_err-m.field-0.0)

pub returns-in_err-end : goal.returns-in_err-end
returns-in_err-end c =
    let refused : c.from_residual-in_err-end.result ≡ Err c.in_err-end.field-0.0 = search rules in
    let m = was_read _ c.in_ok-m.ensures.answer c.in_ok-m.ensures.kept in
    rw (refused, m.read, ← c.in_err-end.ensures) (says_refused c.in_err-end.field-0.0)

pub with_fields-requires : goal.with_fields-requires
with_fields-requires c =
    let m = was_read _ c.in_ok-m.ensures.answer c.in_ok-m.ensures.kept in
    let fits = follow_fits _ _ m.valid c.in_ok-end.ensures in
    (fits.0, fits.1, omega arith)

pub returns : goal.returns
returns c =
    let m = was_read _ c.in_ok-m.ensures.answer c.in_ok-m.ensures.kept in
    rw (m.read, ← c.in_ok-end.ensures) (says (follow_fits _ _ m.valid c.in_ok-end.ensures) c.with_fields.ensures)
