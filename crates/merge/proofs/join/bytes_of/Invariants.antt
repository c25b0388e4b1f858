-- `bytes_of` meets its contract. The invariant: each byte so far holds eight flags.
use mathlib.Core.Path.{◌≡◌}
use Prim.Native.Nat.{ℕ, ◌*◌, ◌<◌}
use lib.ListN.{length, get_or}
use Rattle.merge.specs.Answer.{bits_from, flag_at}
use Rattle.merge.proofs.join.bytes_of.Given as goal

abbrev pub invariant-loop-i : goal.invariant-loop-i
invariant-loop-i l = (length l.bytes ≡ 8) × ((k : ℕ) → k < l.i → get_or l.bytes k 0 ≡ bits_from (flag_at l.flags) (8 * k) 8)
