-- `fill_ends` meets its contract. The invariant: the first two parts stay solved, and the costs of the lines that leave below o are known.
use Prim.Native.Nat.{◌*◌}
use Rattle.std.specs.Prelude.{None}
use Rattle.costs.specs.Cost.{WhereNamed}
use Rattle.costs.specs.Lanes.{FirstSolved}
use Rattle.costs.proofs.Filled.{Filled}
use Rattle.costs.proofs.slices.fill_ends.Given as goal

abbrev pub invariant-loop-o : goal.invariant-loop-o
invariant-loop-o l = record {
  solved : FirstSolved l.side.system l.table;
  any : Filled l.side (l.o * 4) l.costs None;
  named : WhereNamed l.side.system.top (Filled l.side (l.o * 4) l.named);
}
