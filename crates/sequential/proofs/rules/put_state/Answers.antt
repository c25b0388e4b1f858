use native.Mathlib.Nat.{le_antisymm}
use Rattle.sequential.proofs.Counting.{loop_start, loop_next, loop_room}
use Rattle.sequential.specs.Listed.{rules_at, rules_of}
use Rattle.sequential.specs.Parts.{state_of}
use Rattle.sequential.proofs.rules.put_state.Goals as goal

pub loop-top-init : goal.loop-top-init
loop-top-init g c = loop_start g.S.Sink.laws _ _

pub put_top-requires-clause-room : goal.put_top-requires-clause-room
unfolding rules_of
put_top-requires-clause-room g c =
    loop_room g.S.Sink.laws (rules_at c.args.m.now (state_of c.args.s)) c.loop-top-test.true c.loop-top.invariant c.requires.room

pub loop-top-preserved : goal.loop-top-preserved
loop-top-preserved g c = loop_next g.S.Sink.laws (rules_at c.args.m.now (state_of c.args.s)) _ c.loop-top.invariant c.put_top.ensures

pub returns : goal.returns
unfolding rules_of
returns g c = rw (le_antisymm c.loop-top.auto.top-end c.loop-top-test.false) at c.loop-top.invariant
