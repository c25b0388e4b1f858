-- `page` meets its contract: replay decides first, then the store's length, and what is put is the page.
use Rattle.std.specs.Prelude.{Err}
use mathlib.Core.Path.{◌≡◌, refl, sym}
use native.Mathlib.Omega.{arith}
use Rattle.std.proofs.Common.{rules}
use Rattle.writer.proofs.Outputs.{lent}
use Rattle.page.proofs.Answers.{refused, short, whole}
use Rattle.page.proofs.Pages.{pageable, page_length}
use Rattle.page.proofs.page.Goals as goal

pub returns-in_err-replay-clause-answer : goal.returns-in_err-replay-clause-answer
returns-in_err-replay-clause-answer c =
    let said : c.from_residual.result ≡ Err c.in_err-replay.field-0.0 = search rules in
    rw said (refused c.args.m c.args.schedule.now c.args.store.now (sym c.in_err-replay.ensures)).0

pub returns-in_err-replay-clause-stored : goal.returns-in_err-replay-clause-stored
returns-in_err-replay-clause-stored c = (refused c.args.m c.args.schedule.now c.args.store.now (sym c.in_err-replay.ensures)).1

pub overflow_mul-size : goal.overflow_mul-size
overflow_mul-size c = omega (arith, (pageable _ _ (sym c.in_ok-replay.ensures)).most)

pub returns-then-store-size-clause-answer : goal.returns-then-store-size-clause-answer
returns-then-store-size-clause-answer c =
    let e = sym c.in_ok-replay.ensures in
    (short _ _ c.args.store.now e (page_length _ _ e) (omega arith)).0

pub returns-then-store-size-clause-stored : goal.returns-then-store-size-clause-stored
returns-then-store-size-clause-stored c =
    let e = sym c.in_ok-replay.ensures in
    (short _ _ c.args.store.now e (page_length _ _ e) (omega arith)).1

pub put_page-requires-clause-pageable : goal.put_page-requires-clause-pageable
put_page-requires-clause-pageable c = pageable _ _ (sym c.in_ok-replay.ensures)

pub returns-clause-answer : goal.returns-clause-answer
returns-clause-answer c =
    let e = sym c.in_ok-replay.ensures in
    (whole _ _ _ e (page_length _ _ e) (omega arith) (lent c.new-out.ensures c.put_page.ensures refl)).0

pub returns-clause-stored : goal.returns-clause-stored
returns-clause-stored c =
    let e = sym c.in_ok-replay.ensures in
    (whole _ _ _ e (page_length _ _ e) (omega arith) (lent c.new-out.ensures c.put_page.ensures (search rules))).1
