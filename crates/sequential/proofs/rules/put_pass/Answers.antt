-- `put_pass` meets its contract: the tops from 0 to 33 pass, and no other.
use Rattle.sequential.specs.Parts.{state_of}
use Rattle.sequential.proofs.Making.{pass_none, pass_one}
use Rattle.sequential.proofs.rules.put_pass.Goals as goal

pub rule-requires : goal.rule-requires
rule-requires g c = rw (pass_one (state_of c.args.s) _ c.if-top-le-MARK_B.true) at c.requires.room

pub returns-then-top-le-MARK_B : goal.returns-then-top-le-MARK_B
returns-then-top-le-MARK_B g c = rw (pass_one (state_of c.args.s) _ c.if-top-le-MARK_B.true) c.rule.ensures

pub returns-else-top-le-MARK_B : goal.returns-else-top-le-MARK_B
returns-else-top-le-MARK_B g c = rw (pass_none (state_of c.args.s) _ c.if-top-le-MARK_B.false) (g.S.Sink.laws.nothing _)
