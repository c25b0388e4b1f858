-- `put_rules` meets its contract. The invariant: the rules of the counters up to this turn have been put.
use Rattle.sequential.specs.Listed.{below}
use Rattle.sequential.specs.Text.{text_of}
use Prim.Native.Nat.{suc}
use Rattle.sequential.specs.Listed.{rules_with}
use Rattle.sequential.proofs.put_rules.Given as goal

abbrev pub invariant-loop-turn : goal.invariant-loop-turn
invariant-loop-turn g l = g.S.Sink.takes l.initial.out l.out (text_of (below (λ i. rules_with l.m (suc i)) l.turn))
