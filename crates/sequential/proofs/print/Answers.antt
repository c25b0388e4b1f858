-- `print` meets its contract: the model decides first, then the store's length, and what is put is the text.
use Rattle.std.proofs.Common.{rules}
use Rattle.std.specs.Prelude.{Err}
use mathlib.Core.Path.{◌≡◌, refl}
use native.Mathlib.Omega.{arith}
use Rattle.sequential.proofs.Answers.{refused, short, whole}
use Rattle.sequential.proofs.Bounds.{text_bound}
use Rattle.sequential.proofs.Plain.{printable_fits}
use Rattle.writer.proofs.Outputs.{lent}
use Rattle.sequential.proofs.print.Goals as goal

pub returns-in_err-check-clause-answer : goal.returns-in_err-check-clause-answer
returns-in_err-check-clause-answer c =
    let said : c.from_residual.result ≡ Err c.in_err-check.field-0.0 = search rules in
    rw said (refused c.args.m c.args.store.now _ c.in_err-check.ensures).0

pub returns-in_err-check-clause-stored : goal.returns-in_err-check-clause-stored
returns-in_err-check-clause-stored c = (refused c.args.m c.args.store.now _ c.in_err-check.ensures).1

pub put_rules-requires-clause-fits : goal.put_rules-requires-clause-fits
put_rules-requires-clause-fits c = printable_fits _ c.in_ok-check.ensures

pub put_rules-requires-clause-room : goal.put_rules-requires-clause-room
put_rules-requires-clause-room c = text_bound (printable_fits _ c.in_ok-check.ensures)

pub returns-then-store-count-clause-answer : goal.returns-then-store-count-clause-answer
returns-then-store-count-clause-answer c = (short _ c.args.store.now c.in_ok-check.ensures (omega arith)).0

pub returns-then-store-count-clause-stored : goal.returns-then-store-count-clause-stored
returns-then-store-count-clause-stored c = (short _ c.args.store.now c.in_ok-check.ensures (omega arith)).1

pub put_rules-requires-2-clause-fits : goal.put_rules-requires-2-clause-fits
put_rules-requires-2-clause-fits c = printable_fits _ c.in_ok-check.ensures

pub returns-clause-answer : goal.returns-clause-answer
returns-clause-answer c =
    (whole _ _ c.in_ok-check.ensures (omega arith) (lent c.new-out.ensures c.put_rules-2.ensures refl)).0

pub returns-clause-stored : goal.returns-clause-stored
returns-clause-stored c =
    (whole _ _ c.in_ok-check.ensures (omega arith) (lent c.new-out.ensures c.put_rules-2.ensures (search rules))).1
