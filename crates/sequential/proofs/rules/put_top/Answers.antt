-- `put_top` meets its contract: up to counter K the threads' rules, the pass and B's begin, and after it the close.
use native.Mathlib.Omega.{arith}
use Rattle.sequential.specs.Parts.{state_of}
use Rattle.sequential.proofs.Rooms.{early_text, early_length, late_text}
use Rattle.sequential.proofs.rules.put_top.Goals as goal

pub put_taken-requires-clause-room : goal.put_taken-requires-clause-room
put_taken-requires-clause-room g c =
    let size = early_length c.args.m.now (state_of c.args.s) c.args.top c.if-s-m.true in omega (arith, c.requires.room)

pub put_pass-requires-clause-room : goal.put_pass-requires-clause-room
put_pass-requires-clause-room g c =
    let size = early_length c.args.m.now (state_of c.args.s) c.args.top c.if-s-m.true in
    omega (arith, c.requires.room, g.S.Sink.laws.left c.put_taken.ensures)

pub put_begin-requires-clause-room : goal.put_begin-requires-clause-room
put_begin-requires-clause-room g c =
    let size = early_length c.args.m.now (state_of c.args.s) c.args.top c.if-s-m.true in
    omega (arith, c.requires.room, g.S.Sink.laws.left c.put_taken.ensures, g.S.Sink.laws.left c.put_pass.ensures)

pub put_close-requires : goal.put_close-requires
put_close-requires g c = rw (late_text c.args.m.now (state_of c.args.s) c.args.top c.if-s-m.false) at c.requires.room

pub returns-then-s-m : goal.returns-then-s-m
returns-then-s-m g c =
    let laws = g.S.Sink.laws in
    rw (early_text c.args.m.now (state_of c.args.s) c.args.top c.if-s-m.true)
    (laws.after (laws.after c.put_taken.ensures c.put_pass.ensures) c.put_begin.ensures)

pub returns-else-s-m : goal.returns-else-s-m
returns-else-s-m g c = rw (late_text c.args.m.now (state_of c.args.s) c.args.top c.if-s-m.false) c.put_close.ensures
