-- `sequentialize` meets its contract: the number is that of the reader, or of what is done with the model that was read.
use mathlib.Core.Path.{◌≡◌, refl}
use Rattle.std.proofs.Common.{rules}
use Rattle.std.specs.Prelude.{Err}
use Rattle.ffi.proofs.Ranges.{print_fits}
use Rattle.ffi.proofs.Records.{was_read, was_refused}
use Rattle.ffi.proofs.Replies.{says, says_refused}
use Rattle.ffi.proofs.calls.sequentialize.Goals as goal

pub returns-in_err-m : goal.returns-in_err-m
returns-in_err-m c =
    let refused : c.from_residual.result ≡ Err c.in_err-m.field-0.0 = search rules in
    rw (refused, was_refused _ c.in_err-m.ensures.answer) (says_refused c.in_err-m.field-0.0, refl)

pub returns-in_err-n : goal.returns-in_err-n
returns-in_err-n c =
    let refused : c.from_residual-in_err-n.result ≡ Err c.in_err-n.field-0.0 = search rules in
    let m = was_read _ c.in_ok-m.ensures.answer c.in_ok-m.ensures.kept in
    rw (refused, m.read, ← c.in_err-n.ensures.answer) (says_refused c.in_err-n.field-0.0, c.in_err-n.ensures.stored)

pub with_field-requires : goal.with_field-requires
with_field-requires c =
    let m = was_read _ c.in_ok-m.ensures.answer c.in_ok-m.ensures.kept in
    print_fits _ _ m.valid c.in_ok-n.ensures.answer

pub returns : goal.returns
returns c =
    let m = was_read _ c.in_ok-m.ensures.answer c.in_ok-m.ensures.kept in
    rw (m.read, ← c.in_ok-n.ensures.answer)
    (says (print_fits _ _ m.valid c.in_ok-n.ensures.answer) c.with_field.ensures, c.in_ok-n.ensures.stored)
