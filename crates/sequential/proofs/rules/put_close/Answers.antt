-- `put_close` meets its contract: the closing symbol of the top's thread comes over a top from 0 to 33.
use Rattle.sequential.specs.Parts.{state_of}
use Rattle.sequential.proofs.Making.{close_none, close_one}
use Rattle.sequential.proofs.rules.put_close.Goals as goal

pub rule-requires : goal.rule-requires
rule-requires g c = rw (close_one (state_of c.args.s) _ c.if-top-le-MARK_B.true c.closing_of.ensures) at c.requires

pub returns-then-top-le-MARK_B : goal.returns-then-top-le-MARK_B
returns-then-top-le-MARK_B g c = rw (close_one (state_of c.args.s) _ c.if-top-le-MARK_B.true c.closing_of.ensures) c.rule.ensures

pub returns-else-top-le-MARK_B : goal.returns-else-top-le-MARK_B
returns-else-top-le-MARK_B g c = rw (close_none (state_of c.args.s) _ c.if-top-le-MARK_B.false) (g.S.Sink.laws.nothing _)
