-- `put_act` meets its contract: the rule is put where the copy and the top are those before it.
use mathlib.Core.Path.{sym, ◌∙◌}
use Rattle.sequential.proofs.Making.{act_none, act_other, act_one}
use Rattle.sequential.proofs.threads.put_act.Goals as goal
use Rattle.sequential.proofs.threads.put_act.Goals.{else-r-s-via-then-r-s+else-symbol_of-top, else-r-s-via-else-r-s}

pub rule-requires : goal.rule-requires
rule-requires g c =
    let s = c.args.s.now in
    let top = sym c.symbol_of.ensures ∙ c.if-symbol_of-top.true in
    let one = act_one s.rounds s.counter s.copies _ c.args.r c.args.id s.low c.requires.turn c.if-r-s.true top in
    rw c.right_of.ensures (rw one at c.requires.room)

pub returns-then-symbol_of-top : goal.returns-then-symbol_of-top
returns-then-symbol_of-top g c =
    let s = c.args.s.now in
    let top = sym c.symbol_of.ensures ∙ c.if-symbol_of-top.true in
    rw (act_one s.rounds s.counter s.copies _ c.args.r c.args.id s.low c.requires.turn c.if-r-s.true top, ← c.right_of.ensures) c.rule.ensures

pub returns-else-r-s : goal.returns-else-r-s
returns-else-r-s g c =
    let s = c.args.s.now in
    elim c.else-r-s.branch [
      | else-r-s-via-then-r-s+else-symbol_of-top w ↦
          rw (act_other s.rounds s.counter s.copies _ c.args.r c.args.id s.low c.requires.turn (λ e. w.if-symbol_of-top.false (w.symbol_of.ensures ∙ e)))
          (g.S.Sink.laws.nothing _)
      | else-r-s-via-else-r-s w ↦
          rw (act_none s.rounds s.counter s.copies _ c.args.r c.args.id s.low c.requires.turn w.if-r-s.false) (g.S.Sink.laws.nothing _)
    ]
