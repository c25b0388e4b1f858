-- `one` meets its contract, by the verdict; a valid model is never refused.
use mathlib.Core.Path.{refl}
use native.Mathlib.Omega.{arith}
use Rattle.judge.proofs.Roomy.{not_refused}
use Rattle.batch.proofs.Judging.{clear_alone, long_alone, found_alone}
use Rattle.batch.proofs.one.one.Goals as goal

pub unreachable-requires : goal.unreachable-requires
unreachable-requires c = not_refused _ _ c.requires.valid refl refl c.in-Err.ensures.answer

pub returns-in-Ok-Clear : goal.returns-in-Ok-Clear
returns-in-Ok-Clear c = clear_alone _ _ (rw c.in-Ok-Clear.field-0-is at c.in-Ok-Clear.ensures.answer).1 c.unwritten.ensures

pub returns-in-Ok-Long : goal.returns-in-Ok-Long
returns-in-Ok-Long c = long_alone _ _ (rw c.in-Ok-Long.field-0-is at c.in-Ok-Long.ensures.answer).1 c.unwritten-in-Ok-Long.ensures

pub returns-in-Ok-Found : goal.returns-in-Ok-Found
returns-in-Ok-Found c =
    let told = rw c.in-Ok-Found.field-0-is at c.in-Ok-Found.ensures.answer in
    let witness = rw c.in-Ok-Found.field-0-is at c.in-Ok-Found.ensures.witness in
    found_alone _ _ told.1 witness (omega arith) c.found.ensures.told c.found.ensures.bytes
