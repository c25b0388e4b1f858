-- `push` meets its contract. The invariant: the places of controls before x are raised, and all below the level is kept.
use mathlib.Core.Path.{◌≡◌}
use Prim.Native.Nat.{◌*◌}
use Rattle.run.proofs.Raising.{Raising}
use Rattle.run.proofs.levels.Levels.push.Given as goal

abbrev pub invariant-loop-x : goal.invariant-loop-x
invariant-loop-x l =
    Raising l.course.exits l.initial.self.counts l.self.counts l.course.plan.controls l.i l.symbol (8 * l.passed) l.x
    × (l.self.symbols ≡ l.initial.self.symbols)
