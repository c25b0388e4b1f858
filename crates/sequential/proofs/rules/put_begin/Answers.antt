-- `put_begin` meets its contract: B begins at counter 1 under the helper, and nowhere else.
use Rattle.sequential.specs.Parts.{state_of}
use Rattle.sequential.proofs.Making.{begin_none, begin_other, begin_one}
use Rattle.sequential.proofs.rules.put_begin.Goals as goal
use Rattle.sequential.proofs.rules.put_begin.Goals.{else-s-eq1-via-then-s-eq1+else-top-eq-HELPER, else-s-eq1-via-else-s-eq1}

pub rule-requires : goal.rule-requires
rule-requires g c = rw (begin_one (state_of c.args.s) _ c.args.b.now c.if-s-eq1.true c.if-top-eq-HELPER.true) at c.requires.room

pub returns-then-top-eq-HELPER : goal.returns-then-top-eq-HELPER
returns-then-top-eq-HELPER g c = rw (begin_one (state_of c.args.s) _ c.args.b.now c.if-s-eq1.true c.if-top-eq-HELPER.true) c.rule.ensures

pub returns-else-s-eq1 : goal.returns-else-s-eq1
returns-else-s-eq1 g c =
    elim c.else-s-eq1.branch [
      | else-s-eq1-via-then-s-eq1+else-top-eq-HELPER w ↦
          rw (begin_other (state_of c.args.s) _ c.args.b.now w.if-top-eq-HELPER.false) (g.S.Sink.laws.nothing _)
      | else-s-eq1-via-else-s-eq1 w ↦ rw (begin_none (state_of c.args.s) _ c.args.b.now w.if-s-eq1.false) (g.S.Sink.laws.nothing _)
    ]
