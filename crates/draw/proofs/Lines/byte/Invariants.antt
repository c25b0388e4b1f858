-- `byte` meets its contract. The invariant: the byte holds the marks from place p on, up to the last of its eight.
use Prim.Native.Nat.{◌+◌, ◌*◌, ◌≤◌}
use Rattle.draw.specs.Marks.{DrawnAt}
use Rattle.draw.proofs.Pack.{Packed}
use Rattle.draw.proofs.Lines.byte.Given as goal

abbrev pub invariant-loop-p : goal.invariant-loop-p
invariant-loop-p l = (8 * l.at ≤ l.p) × Packed (DrawnAt l.self.g l.self.k l.costs.a.now l.costs.b.now) (8 * l.at + 8) l.p l.byte
