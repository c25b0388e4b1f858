use mathlib.Core.List.{List}
use Prim.Native.Nat.{ℕ, suc}
use native.Mathlib.Nat.{le_antisymm}
use native.Mathlib.Numerals.{add-one}
use Rattle.sequential.proofs.Counting.{loop_start, loop_next, loop_room}
use Rattle.sequential.specs.Listed.{rules_with, rules}
use Rattle.sequential.specs.System.{StackRule}
use Rattle.sequential.proofs.put_rules.Goals as goal

pub loop-turn-init : goal.loop-turn-init
loop-turn-init g c = loop_start g.S.Sink.laws _ _

pub put_counter-requires-clause-room : goal.put_counter-requires-clause-room
unfolding rules
put_counter-requires-clause-room g c =
    let f : ℕ → List StackRule = λ i. rules_with c.args.m (suc i) in
    rw add-one (loop_room g.S.Sink.laws f c.loop-turn-test.true c.loop-turn.invariant c.requires.room)

pub loop-turn-preserved : goal.loop-turn-preserved
loop-turn-preserved g c =
    let f : ℕ → List StackRule = λ i. rules_with c.args.m (suc i) in
    loop_next g.S.Sink.laws f _ c.loop-turn.invariant (rw add-one at c.put_counter.ensures)

pub returns : goal.returns
unfolding rules
returns g c = rw (le_antisymm c.loop-turn.auto.turn-end c.loop-turn-test.false) at c.loop-turn.invariant
