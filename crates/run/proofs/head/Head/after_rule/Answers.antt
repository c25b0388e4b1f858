-- `after_rule` meets its contract: by the right side of the rule, what is left on the stack.
use Rattle.run.specs.Plan.{rule_in}
use Rattle.run.proofs.Goings.{removed_goes, swapped_goes, pushed_goes}
use Rattle.run.proofs.head.Head.after_rule.Goals as goal

pub returns-in-Remove : goal.returns-in-Remove
returns-in-Remove c =
    let e = c.rule-rule.ensures in
    let a = c.args in
    removed_goes a.levels.now.symbols a.self (rule_in a.plan.now a.r) c.after_remove.result a.levels.now.fit (rw e at c.after_remove.ensures) (rw e at c.in-Remove.is)

pub returns-in-Swap : goal.returns-in-Swap
returns-in-Swap c =
    let e = c.rule-rule.ensures in
    let r = rw e at c.in-Swap.is in
    swapped_goes _ _ _ _ _ r (rw r at (c.args.plan.now.in_range.within _ c.requires.0).symbols) (rw e at c.moved.ensures)

pub returns-in-Push : goal.returns-in-Push
returns-in-Push c =
    let e = c.rule-rule.ensures in
    let r = rw e at c.in-Push.is in
    pushed_goes _ _ _ _ _ _ r (rw r at (c.args.plan.now.in_range.within _ c.requires.0).symbols) (rw e at c.moved-in-Push.ensures)
