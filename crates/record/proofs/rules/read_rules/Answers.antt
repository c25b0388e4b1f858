-- `read_rules` meets its contract: each rule that is read stands behind those before it, and the first that is refused is the answer.
use mathlib.Core.Path.{◌≡◌}
use Rattle.std.proofs.Common.{rules, Err}
use Rattle.record.proofs.Lists.{starts, steps, falls}
use Rattle.record.proofs.rules.read_rules.Goals as goal

pub loop-i-init : goal.loop-i-init
loop-i-init c = starts c.args.present c.args.g c.args.part.now c.in_ok-n.ensures

pub returns-in_err-need : goal.returns-in_err-need
returns-in_err-need c =
    let said : c.from_residual-in_err-need.result ≡ Err c.in_err-need.field-0.0 = search rules in
    rw said
    (falls c.loop-i.invariant c.loop-i-test.true c.in_ok-rule.ensures c.key-place.ensures c.in_err-need.field-0.0 c.in_err-need.ensures)

pub loop-i-preserved : goal.loop-i-preserved
loop-i-preserved c =
    steps c.loop-i.invariant c.loop-i-test.true c.in_ok-rule.ensures c.key-place.ensures c.in_ok-need.ensures
