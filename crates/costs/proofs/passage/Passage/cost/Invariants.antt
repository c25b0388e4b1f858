-- `cost` meets its contract. The invariant: best is the least over the first j numbers of turn ends.
use mathlib.Core.Path.{◌≡◌}
use Prim.Native.Nat.{ℕ}
use Rattle.model.specs.Tops.{Top}
use Rattle.costs.specs.Cost.{control, over_turns}
use Rattle.costs.specs.Passages.{Along}
use Rattle.summary.specs.Control.{TurnEnd}
use Rattle.costs.proofs.passage.Passage.cost.Given as goal

abbrev pub invariant-loop-j : goal.invariant-loop-j
invariant-loop-j g l =
    (ends : ℕ → TurnEnd) (f : Top) (s : ℕ) → Along l.self ends f s
    → l.best ≡ over_turns l.self.table.controls ends l.self.table.cells.now (control 0 l.self.from) l.self.symbol f (control g.row.N s) l.j
