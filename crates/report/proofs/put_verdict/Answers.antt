-- `put_verdict` meets its contract: each verdict's text is put, and a valid model is never refused.
use native.Mathlib.Omega.{arith}
use Rattle.std.proofs.Common.{rules}
use Rattle.model.proofs.Stores.{stored_steps}
use Rattle.judge.proofs.Roomy.{not_refused}
use Rattle.report.proofs.Putting.{says}
use Rattle.report.proofs.Telling.{fills, found_room, tells_clear, tells_long, tells_found}
use Rattle.report.proofs.put_verdict.Goals as goal

pub put_clear-requires-clause-fills : goal.put_clear-requires-clause-fills
put_clear-requires-clause-fills c = fills _ c.requires.valid (search rules)

pub put_found-requires : goal.put_found-requires
put_found-requires c =
    let told = rw c.in-Ok-Found.field-0-is at c.in-Ok-Found.ensures.answer in
    let witness = rw c.in-Ok-Found.field-0-is at c.in-Ok-Found.ensures.witness in
    omega (arith, found_room c.requires.valid told.1.0 witness (search rules), c.requires.room)

pub unreachable-requires : goal.unreachable-requires
unreachable-requires c = not_refused _ _ c.requires.valid (search rules) (search rules) c.in-Err.ensures.answer

pub returns-in-Ok-Clear : goal.returns-in-Ok-Clear
returns-in-Ok-Clear c =
    let told = rw c.in-Ok-Clear.field-0-is at c.in-Ok-Clear.ensures.answer in
    says (tells_clear told.1 c.in-Ok-Clear.ensures.table) c.put_clear.ensures.text (omega arith)

pub returns-in-Ok-Long : goal.returns-in-Ok-Long
returns-in-Ok-Long c =
    let told = rw c.in-Ok-Long.field-0-is at c.in-Ok-Long.ensures.answer in
    says (tells_long told.1) c.bytes.ensures (omega arith)

pub returns-in-Ok-Found : goal.returns-in-Ok-Found
returns-in-Ok-Found c =
    let told = rw c.in-Ok-Found.field-0-is at c.in-Ok-Found.ensures.answer in
    let witness = rw c.in-Ok-Found.field-0-is at c.in-Ok-Found.ensures.witness in
    says (tells_found told.1 witness (stored_steps witness (search rules))) c.put_found.ensures
    (found_room c.requires.valid told.1.0 witness (search rules))
