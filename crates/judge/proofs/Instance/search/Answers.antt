-- `search` meets its contract: the fewest steps over the lines are the least of the runs that reach the target, and the schedule that is
-- written is one of them, so that its depths can be read off it.
use native.Mathlib.Omega.{arith}
use Rattle.draw.proofs.Refusals.{in_range}
use Rattle.judge.proofs.Reaching.{reaching, judged_clear}
use Rattle.judge.proofs.Schedules.{stored_legal}
use Rattle.judge.proofs.Instance.search.Goals as goal

pub returns-then-best-gt-CAP-clause-answer : goal.returns-then-best-gt-CAP-clause-answer
returns-then-best-gt-CAP-clause-answer g c =
    judged_clear (reaching (in_range _ c.args.self.now.valid) c.requires c.choose-best.ensures) c.if-best-gt-CAP.true

pub depths-requires : goal.depths-requires
depths-requires g c = stored_legal c.least.ensures (omega arith) (in_range _ c.args.self.now.valid)
