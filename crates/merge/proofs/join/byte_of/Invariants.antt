-- `byte_of` meets its contract. The invariant: the byte holds the flags taken so far, from the highest down.
use mathlib.Core.Path.{◌≡◌}
use Prim.Native.Nat.{◌+◌, ◌-◌}
use Rattle.merge.specs.Answer.{bits_from, flag_at}
use Rattle.merge.proofs.join.byte_of.Given as goal

abbrev pub invariant-loop-i : goal.invariant-loop-i
invariant-loop-i l = l.byte ≡ bits_from (flag_at l.flags) (l.p + 8 - l.i) l.i
