-- `lines` meets its contract: the number is that of the reader or of the call for the line table.
use mathlib.Core.Path.{◌≡◌, refl}
use Rattle.std.proofs.Common.{rules}
use Rattle.std.specs.Prelude.{Err}
use Rattle.ffi.proofs.Records.{was_read, was_refused, lines_answered}
use Rattle.ffi.proofs.Replies.{says_refused}
use Rattle.ffi.proofs.calls.lines.Goals as goal

pub returns-in_err-m : goal.returns-in_err-m
returns-in_err-m c =
    let refused : c.from_residual.result ≡ Err c.in_err-m.field-0.0 = search rules in
    rw (refused, was_refused _ c.in_err-m.ensures.answer) (says_refused c.in_err-m.field-0.0, refl)

pub returns : goal.returns
returns c =
    let m = was_read _ c.in_ok-m.ensures.answer c.in_ok-m.ensures.kept in
    rw (c.and.ensures, m.read) (lines_answered _ _ _ c.lines.result c.lines.ensures.answer c.lines.ensures.leaves)
