-- `thread` meets its contract. The invariant: `least` is the least key that rule r may have, and the rules from place r on have the
-- fault that all of them have.
use mathlib.Core.Path.{◌≡◌}
use Prim.Native.Nat.{◌≤◌}
use lib.ListN.{length}
use Rattle.model.specs.Valid.{rules_fault}
use Rattle.model.proofs.Order.{least_at, fault_on}
use Rattle.model.proofs.faults.thread.Given as goal

abbrev pub invariant-loop-r : goal.invariant-loop-r
invariant-loop-r l =
    (l.fn.t.count ≤ 64) × (length l.fn.t.rules ≡ 64) × (l.least ≡ least_at l.fn.t l.r-index)
    × (fault_on l.g l.fn.t l.r-index l.fn.t.count ≡ rules_fault l.g l.fn.t 0 l.fn.t.count)
