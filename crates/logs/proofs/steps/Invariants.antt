-- `steps` meets its contract. The invariant: what is left of the log, followed from here, comes to what all of it does from the start, and
-- each stack and the turn have grown by at most one a byte.
use Rattle.logs.proofs.Following.{Going}
use Rattle.logs.proofs.steps.Given as goal

abbrev pub invariant-loop-byte : goal.invariant-loop-byte
invariant-loop-byte l = Going l.m l.log l.initial.w l.initial.a l.initial.b l.w l.a l.b l.byte-index
