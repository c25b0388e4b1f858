-- `first` meets its contract: the number is that of the first record, or of none.
use mathlib.Core.Path.{◌≡◌, refl}
use native.Mathlib.Omega.{arith}
use Rattle.std.proofs.Common.{rules}
use Rattle.std.specs.Prelude.{Ok, Err, None, Some}
use Rattle.ffi.proofs.Replies.{says, says_refused}
use Rattle.ffi.proofs.Trays.{front_fits, first_answered}
use Rattle.ffi.proofs.calls.first.Goals as goal

pub returns-in_err-found : goal.returns-in_err-found
returns-in_err-found c =
    let r = c.in_err-found.field-0.0 in
    let refused : c.from_residual.result ≡ Err r = search rules in
    rw refused (first_answered (Err r) _ c.in_err-found.ensures.answer c.in_err-found.ensures.stands (says_refused r))

pub with_field-requires : goal.with_field-requires
with_field-requires c =
    let told = rw c.in-Some.is at c.in_ok-found.ensures in
    omega (arith, front_fits _ told.answer told.stands)

pub returns-in-Some : goal.returns-in-Some
returns-in-Some c =
    let told = rw c.in-Some.is at c.in_ok-found.ensures in
    first_answered (Ok (Some _)) _ told.answer told.stands (says (front_fits _ told.answer told.stands) c.with_field.ensures)

pub returns-in-None : goal.returns-in-None
returns-in-None c =
    let told = rw c.in-None.is at c.in_ok-found.ensures in
    first_answered (Ok None) _ told.answer told.stands (says tt refl)
