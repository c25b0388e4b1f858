-- `fill_from` meets its contract. The invariant: the first two parts stay solved, and the costs of the lanes below (o, i) are known.
use Prim.Native.Nat.{◌+◌, ◌*◌}
use Rattle.std.specs.Prelude.{None}
use Rattle.costs.specs.Cost.{WhereNamed}
use Rattle.costs.specs.Lanes.{FirstSolved}
use Rattle.costs.proofs.Filled.{Filled}
use Rattle.costs.proofs.slices.fill_from.Given as goal

abbrev pub invariant-loop-i : goal.invariant-loop-i
invariant-loop-i l = record {
  solved : FirstSolved l.side.system l.table;
  any : Filled l.side (l.o * 4 + l.i) l.costs None;
  named : WhereNamed l.side.system.top (Filled l.side (l.o * 4 + l.i) l.named);
}
