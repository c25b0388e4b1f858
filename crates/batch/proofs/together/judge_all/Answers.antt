-- `judge_all` meets its contract: the tray is read first, and then the sizes are tested.
use mathlib.Core.Path.{◌≡◌, sym}
use Rattle.std.proofs.Common.{rules}
use Rattle.std.specs.Prelude.{Err}
use Rattle.batch.proofs.Answering.{fitting, refuses_bad, refuses_sizes, judges}
use Rattle.batch.proofs.together.judge_all.Goals as goal

pub returns-in_err-n : goal.returns-in_err-n
returns-in_err-n c =
    let refused : c.from_residual.result ≡ Err c.in_err-n.field-0.0 = search rules in
    rw refused (refuses_bad c.in_err-n.field-0.0 c.in_err-n.ensures)

pub returns-in_err-check_sizes : goal.returns-in_err-check_sizes
returns-in_err-check_sizes c =
    let refused : c.from_residual-in_err-check_sizes.result ≡ Err c.in_err-check_sizes.field-0.0 = search rules in
    rw refused (refuses_sizes c.in_err-check_sizes.field-0.0 c.in_ok-n.ensures c.in_err-check_sizes.ensures)

pub each-outcomes-requires-clause-few : goal.each-outcomes-requires-clause-few
each-outcomes-requires-clause-few c = (fitting _ _ _ (sym c.in_ok-check_sizes.ensures)).0

pub each-outcomes-requires-clause-room : goal.each-outcomes-requires-clause-room
each-outcomes-requires-clause-room c = (fitting _ _ _ (sym c.in_ok-check_sizes.ensures)).2

pub returns : goal.returns
returns c = judges c.each-outcomes.ensures (sym c.in_ok-check_sizes.ensures)
