-- `put_acts` meets its contract. The invariant: the rules below r that take the top have been put.
use Rattle.sequential.specs.Listed.{below}
use Rattle.sequential.specs.Text.{text_of}
use Rattle.model.specs.Rules.{rule_at}
use Rattle.sequential.specs.Listed.{act_of}
use Rattle.sequential.specs.Parts.{state_of}
use Rattle.sequential.proofs.threads.put_acts.Given as goal

abbrev pub invariant-loop-r : goal.invariant-loop-r
invariant-loop-r g l = g.S.Sink.takes l.initial.out l.out (text_of (below (λ i. act_of (rule_at l.t i) l.id (state_of l.s) l.top) l.r))
