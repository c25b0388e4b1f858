use mathlib.Core.List.{List}
use mathlib.Core.Path.{◌≡◌}
use Prim.Native.Nat.{ℕ, ◌^◌, ◌<◌}
use native.Mathlib.Omega.{arith}
use Rattle.model.specs.Lines.{digits}
use Rattle.sequential.proofs.Counting.{loop_start, loop_next, loop_room}
use Rattle.sequential.specs.Allowed as allowed
use Rattle.sequential.specs.Listed.{rules_of, rules_with}
use Rattle.sequential.specs.System.{StackRule}
use Rattle.sequential.proofs.rules.put_counter.Goals as goal

pub loop-v-init : goal.loop-v-init
loop-v-init g c = loop_start g.S.Sink.laws _ _

pub put_state-requires-clause-room : goal.put_state-requires-clause-room
unfolding rules_with
put_state-requires-clause-room g c =
    let a = c.args in
    let f : ℕ → List StackRule = λ i. rules_of a.m (allowed.at a.counter (digits a.m.g a.m.k i)) in
    let less : c.loop-v.v < a.m.g ^ a.m.k = rw (← c.power-n.ensures.0) c.loop-v-test.true in
    rw c.state_at.ensures.state (loop_room g.S.Sink.laws f less c.loop-v.invariant c.requires.room)

pub loop-v-preserved : goal.loop-v-preserved
loop-v-preserved g c =
    let a = c.args in
    let f : ℕ → List StackRule = λ i. rules_of a.m (allowed.at a.counter (digits a.m.g a.m.k i)) in
    loop_next g.S.Sink.laws f _ c.loop-v.invariant (rw c.state_at.ensures.state at c.put_state.ensures)

pub returns : goal.returns
unfolding rules_with
returns g c =
    let all : c.loop-v.v ≡ c.args.m.g ^ c.args.m.k = omega (arith, c.power-n.ensures.0, c.loop-v-test.false) in
    rw all at c.loop-v.invariant
