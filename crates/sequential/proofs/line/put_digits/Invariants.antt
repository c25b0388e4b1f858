-- `put_digits` meets its contract. The invariant: since the loop began, the first copies have been put, as many as it has come past.
use mathlib.Core.List.{map}
use Prim.Native.Nat.{◌+◌}
use lib.ListN.{take}
use Rattle.writer.specs.Output.{Appends}
use Rattle.sequential.proofs.line.put_digits.Given as goal

abbrev pub invariant-loop-copy : goal.invariant-loop-copy
invariant-loop-copy l = Appends l.initial.out l.out (map (λ x. 48 + x) (take l.copy-index l.copy-items))
