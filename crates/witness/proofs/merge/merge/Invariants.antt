-- `merge` meets its contract. The invariant: the bytes written, with the rest of both sides merged behind them, are the whole.
use mathlib.Core.Path.{◌≡◌}
use Prim.Native.Nat.{◌+◌}
use Rattle.witness.proofs.Sides.{Sides}
use Rattle.witness.proofs.merge.merge.Given as goal

abbrev pub invariant-loop-at : goal.invariant-loop-at
invariant-loop-at l = Sides l.a l.b l.initial.out l.out l.i l.j × (l.at ≡ l.i + l.j)
