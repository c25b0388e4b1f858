-- `judge` meets its contract: the number is that of the reader or of the judge, whose steps and depths fit in their fields.
use mathlib.Core.Path.{◌≡◌, refl}
use native.Mathlib.Omega.{arith}
use Rattle.std.proofs.Common.{rules}
use Rattle.std.specs.Prelude.{Ok, Err}
use Rattle.judge.specs.declared.Verdict.TheVariants.{Clear, Long, Found}
use Rattle.ffi.proofs.Ranges.{found_fits}
use Rattle.ffi.proofs.Records.{was_read, was_refused, answered}
use Rattle.ffi.proofs.Replies.{says, says_refused}
use Rattle.ffi.proofs.calls.judge.Goals as goal

pub returns-in_err-m : goal.returns-in_err-m
returns-in_err-m c =
    let refused : c.from_residual.result ≡ Err c.in_err-m.field-0.0 = search rules in
    rw (refused, was_refused _ c.in_err-m.ensures.answer) (says_refused c.in_err-m.field-0.0, refl, refl)

pub returns-in_err-verdict : goal.returns-in_err-verdict
returns-in_err-verdict c =
    let refused : c.from_residual-in_err-verdict.result ≡ Err c.in_err-verdict.field-0.0 = search rules in
    let m = was_read _ c.in_ok-m.ensures.answer c.in_ok-m.ensures.kept in
    let told = c.in_err-verdict.ensures in
    rw (refused, m.read)
    (answered (Err c.in_err-verdict.field-0.0) (says_refused c.in_err-verdict.field-0.0) told.answer told.table told.witness)

pub with_depths-requires : goal.with_depths-requires
with_depths-requires c =
    let m = was_read _ c.in_ok-m.ensures.answer c.in_ok-m.ensures.kept in
    let told = rw c.in-Found.is at c.in_ok-verdict.ensures.answer in
    let witness = rw c.in-Found.is at c.in_ok-verdict.ensures.witness in
    found_fits m.valid (omega (arith, told.1.0)) told.1.0 witness

pub returns-in-Clear : goal.returns-in-Clear
returns-in-Clear c =
    let m = was_read _ c.in_ok-m.ensures.answer c.in_ok-m.ensures.kept in
    let told = rw c.in-Clear.is at c.in_ok-verdict.ensures in
    rw m.read (answered (Ok Clear) (says tt refl) told.answer told.table told.witness)

pub returns-in-Long : goal.returns-in-Long
returns-in-Long c =
    let m = was_read _ c.in_ok-m.ensures.answer c.in_ok-m.ensures.kept in
    let told = rw c.in-Long.is at c.in_ok-verdict.ensures in
    rw m.read (answered (Ok Long) (says tt refl) told.answer told.table told.witness)

pub returns-in-Found : goal.returns-in-Found
returns-in-Found c =
    let m = was_read _ c.in_ok-m.ensures.answer c.in_ok-m.ensures.kept in
    let told = rw c.in-Found.is at c.in_ok-verdict.ensures in
    let fits = found_fits m.valid (omega (arith, told.answer.1.0)) told.answer.1.0 told.witness in
    rw m.read (answered (Ok (Found _ _)) (says fits c.with_depths.ensures) told.answer told.table told.witness)
