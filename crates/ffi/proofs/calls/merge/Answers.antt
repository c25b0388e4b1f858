-- `merge` meets its contract: the number is that of a reader, of merging or of the writer.
use mathlib.Core.Path.{◌≡◌, refl}
use native.Mathlib.Omega.{arith}
use Rattle.std.proofs.Common.{rules}
use Rattle.std.specs.Prelude.{Err}
use Rattle.ffi.proofs.Ranges.{length_fits}
use Rattle.ffi.proofs.Records.{was_read, was_refused}
use Rattle.ffi.proofs.Replies.{says, says_refused}
use Rattle.ffi.proofs.calls.merge.Goals as goal

pub returns-in_err-m : goal.returns-in_err-m
returns-in_err-m c =
    let refused : c.from_residual.result ≡ Err c.in_err-m.field-0.0 = search rules in
    rw (refused, was_refused _ c.in_err-m.ensures.answer) (says_refused c.in_err-m.field-0.0, refl)

pub returns-in_err-n : goal.returns-in_err-n
returns-in_err-n c =
    let refused : c.from_residual-in_err-n.result ≡ Err c.in_err-n.field-0.0 = search rules in
    let m = was_read _ c.in_ok-m.ensures.answer c.in_ok-m.ensures.kept in
    rw (refused, m.read, was_refused _ c.in_err-n.ensures.answer) (says_refused c.in_err-n.field-0.0, refl)

pub returns-in_err-whole : goal.returns-in_err-whole
returns-in_err-whole c =
    let refused : c.from_residual-in_err-whole.result ≡ Err c.in_err-whole.field-0.0 = search rules in
    let m = was_read _ c.in_ok-m.ensures.answer c.in_ok-m.ensures.kept in
    let n = was_read _ c.in_ok-n.ensures.answer c.in_ok-n.ensures.kept in
    rw (refused, m.read, n.read, ← c.in_err-whole.ensures.answer) ((says_refused c.in_err-whole.field-0.0, refl), tt)

pub returns-in_err-size : goal.returns-in_err-size
returns-in_err-size c =
    let refused : c.from_residual-in_err-size.result ≡ Err c.in_err-size.field-0.0 = search rules in
    let m = was_read _ c.in_ok-m.ensures.answer c.in_ok-m.ensures.kept in
    let n = was_read _ c.in_ok-n.ensures.answer c.in_ok-n.ensures.kept in
    rw (refused, m.read, n.read, ← c.in_ok-whole.ensures.answer, ← c.in_err-size.ensures.answer)
    ((says_refused c.in_err-size.field-0.0, c.in_err-size.ensures.stored), c.in_ok-whole.ensures.made)

pub with_field-requires : goal.with_field-requires
with_field-requires c =
    omega (arith, length_fits _ _ c.in_ok-whole.ensures.made.valid c.in_ok-size.ensures.answer)

pub returns : goal.returns
returns c =
    let m = was_read _ c.in_ok-m.ensures.answer c.in_ok-m.ensures.kept in
    let n = was_read _ c.in_ok-n.ensures.answer c.in_ok-n.ensures.kept in
    let fits = length_fits _ _ c.in_ok-whole.ensures.made.valid c.in_ok-size.ensures.answer in
    rw (m.read, n.read, ← c.in_ok-whole.ensures.answer, ← c.in_ok-size.ensures.answer)
    ((says fits c.with_field.ensures, c.in_ok-size.ensures.stored), c.in_ok-whole.ensures.made)
