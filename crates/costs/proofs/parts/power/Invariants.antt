-- `power` meets its contract. The invariant: r is the power with as many factors as there were rounds.
use mathlib.Core.Path.{◌≡◌}
use Prim.Native.Nat.{◌^◌}
use Rattle.costs.proofs.parts.power.Given as goal

abbrev pub invariant-loop : goal.invariant-loop
invariant-loop l = l.r ≡ l.g ^ l.counter
