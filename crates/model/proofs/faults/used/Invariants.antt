-- `used` meets its contract. The invariant: the rules from place r on have the fault that all of them have.
use mathlib.Core.Path.{◌≡◌}
use Prim.Native.Nat.{◌≤◌}
use lib.ListN.{length}
use Rattle.model.specs.Valid.{used_fault}
use Rattle.model.proofs.Symbols.{used_on}
use Rattle.model.proofs.faults.used.Given as goal

abbrev pub invariant-loop-r : goal.invariant-loop-r
invariant-loop-r l =
    (length l.fn.t.rules ≡ 64) × (l.r-index ≤ 64) × (used_on l.fn.t l.r-index ≡ used_fault l.fn.t.symbols l.fn.t 0 l.fn.t.count)
