-- `suits` meets its contract: the rule applies, and then the steps left decide.
use Rattle.run.proofs.Tights.{says_tight}
use Rattle.run.proofs.tight.suits.Goals as goal

pub returns : goal.returns
returns c =
    says_tight _ _ _ _ _ _ c.if-rule-head.false c.if-rule-head-2.false c.after_step.ensures
