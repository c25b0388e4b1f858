use Rattle.model.specs.Rules.{rule_at}
use mathlib.Core.List.{List}
use Prim.Native.Nat.{ℕ}
use native.Mathlib.Nat.{le_antisymm}
use Rattle.sequential.proofs.Counting.{loop_start, loop_next, loop_room}
use Rattle.sequential.specs.Listed.{act_of, acts_of}
use Rattle.sequential.specs.Parts.{state_of}
use Rattle.sequential.specs.System.{StackRule}
use Rattle.sequential.proofs.threads.put_acts.Goals as goal

pub loop-r-init : goal.loop-r-init
loop-r-init g c = loop_start g.S.Sink.laws _ _

pub put_act-requires-clause-room : goal.put_act-requires-clause-room
unfolding acts_of
put_act-requires-clause-room g c =
    let a = c.args in
    let f : ℕ → List StackRule = λ i. act_of (rule_at a.t.now i) a.id (state_of a.s.now) a.top in
    loop_room g.S.Sink.laws f c.loop-r-test.true c.loop-r.invariant c.requires.room

pub loop-r-preserved : goal.loop-r-preserved
loop-r-preserved g c =
    let a = c.args in
    let f : ℕ → List StackRule = λ i. act_of (rule_at a.t.now i) a.id (state_of a.s.now) a.top in
    loop_next g.S.Sink.laws f _ c.loop-r.invariant c.put_act.ensures

pub returns : goal.returns
unfolding acts_of
returns g c = rw (le_antisymm c.loop-r.auto.r-end c.loop-r-test.false) at c.loop-r.invariant
