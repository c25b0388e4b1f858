-- `put_state` meets its contract. The invariant: the rules of the tops below this one have been put.
use Rattle.sequential.specs.Listed.{below}
use Rattle.sequential.specs.Text.{text_of}
use Rattle.sequential.specs.Listed.{rules_at}
use Rattle.sequential.specs.Parts.{state_of}
use Rattle.sequential.proofs.rules.put_state.Given as goal

abbrev pub invariant-loop-top : goal.invariant-loop-top
invariant-loop-top g l = g.S.Sink.takes l.initial.out l.out (text_of (below (rules_at l.m (state_of l.s)) l.top))
