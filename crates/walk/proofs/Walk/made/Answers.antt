-- `made` meets its contract: no turn is left after a held step, the turn's parity picks the thread, and `fire` makes that thread's step.
use Rattle.std.proofs.Common.{rules, not, ◌≡◌, false, Err}
use Rattle.model.specs.Walk.{turn_free}
use Rattle.model.proofs.Owners.{even_turn, odd_turn}
use Rattle.walk.proofs.Stepping.{by_a, by_b}
use Rattle.walk.proofs.Walk.made.Goals as goal

pub returns-in_err-need-clause-by : goal.returns-in_err-need-clause-by
unfolding turn_free
returns-in_err-need-clause-by c = search rules

pub returns-in_err-fired-clause-by : goal.returns-in_err-fired-clause-by
returns-in_err-fired-clause-by c =
    let a = c.args in
    let free : not c.may_step.result ≡ false = search rules in
    let step = by_a a.m a.self a.a.now a.b.now (record { turn = a.turn; rule = a.rule }) c.may_step.ensures free
    (even_turn _ c.if-turn-eq0.true) c.fire.result c.fire.new.stack (c.fire.ensures.by, c.fire.ensures.grows) in
    let said : c.from_residual-in_err-fired.result ≡ Err c.in_err-fired.field-0.0 = search rules in
    rw said (rw c.in_err-fired.was at step.0)

pub returns-in_err-fired-2-clause-by : goal.returns-in_err-fired-2-clause-by
returns-in_err-fired-2-clause-by c =
    let a = c.args in
    let free : not c.may_step.result ≡ false = search rules in
    let step = by_b a.m a.self a.a.now a.b.now (record { turn = a.turn; rule = a.rule }) c.may_step.ensures free
    (odd_turn _ c.if-turn-eq0.false) c.fire-else-turn-eq0.result c.fire-else-turn-eq0.new.stack
    (c.fire-else-turn-eq0.ensures.by, c.fire-else-turn-eq0.ensures.grows) in
    let said : c.from_residual-in_err-fired-2.result ≡ Err c.in_err-fired-2.field-0.0 = search rules in
    rw said (rw c.in_err-fired-2.was at step.0)

pub returns-in_ok-fired-clause-by : goal.returns-in_ok-fired-clause-by
returns-in_ok-fired-clause-by c =
    let a = c.args in
    let free : not c.may_step.result ≡ false = search rules in
    let step = by_a a.m a.self a.a.now a.b.now (record { turn = a.turn; rule = a.rule }) c.may_step.ensures free
    (even_turn _ c.if-turn-eq0.true) c.fire.result c.fire.new.stack (c.fire.ensures.by, c.fire.ensures.grows) in
    rw c.after.ensures (rw c.in_ok-fired.was at step.0)

pub returns-in_ok-fired-2-clause-by : goal.returns-in_ok-fired-2-clause-by
returns-in_ok-fired-2-clause-by c =
    let a = c.args in
    let free : not c.may_step.result ≡ false = search rules in
    let step = by_b a.m a.self a.a.now a.b.now (record { turn = a.turn; rule = a.rule }) c.may_step.ensures free
    (odd_turn _ c.if-turn-eq0.false) c.fire-else-turn-eq0.result c.fire-else-turn-eq0.new.stack
    (c.fire-else-turn-eq0.ensures.by, c.fire-else-turn-eq0.ensures.grows) in
    rw c.after-else-turn-eq0.ensures (rw c.in_ok-fired-2.was at step.0)
