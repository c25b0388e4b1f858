-- `full` meets its contract. The invariant: the lines of up to `passed` states are behind, and `rest` of the place is left.
use Prim.Native.Nat.{◌*◌, ◌-◌}
use Rattle.draw.proofs.Full.{Reached}
use Rattle.draw.proofs.Lines.full.Given as goal

abbrev pub invariant-loop-power : goal.invariant-loop-power
invariant-loop-power l = Reached l.self.g l.self.k l.p l.rest l.passed l.power

abbrev pub decreases-loop-power : goal.decreases-loop-power
decreases-loop-power l = 2 * l.self.k - l.passed
