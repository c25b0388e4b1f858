-- `put_counter` meets its contract. The invariant: the rules of the copies whose values are below v have been put.
use Rattle.sequential.specs.Listed.{below}
use Rattle.sequential.specs.Text.{text_of}
use Rattle.model.specs.Lines.{digits}
use Rattle.sequential.specs.Allowed as allowed
use Rattle.sequential.specs.Listed.{rules_of}
use Rattle.sequential.proofs.rules.put_counter.Given as goal

abbrev pub invariant-loop-v : goal.invariant-loop-v
invariant-loop-v g l = g.S.Sink.takes l.initial.out l.out (text_of (below (λ i. rules_of l.m (allowed.at l.counter (digits l.m.g l.m.k i))) l.v))
