-- `first_rule` meets its contract. The invariant: no rule before r is tight.
use Prim.Native.Nat.{ℕ, ◌<◌}
use Rattle.run.specs.Levels.{Tight}
use Rattle.run.specs.Plan.{rule_in}
use Rattle.run.proofs.tight.first_rule.Given as goal

abbrev pub invariant-loop-r : goal.invariant-loop-r
invariant-loop-r l = (i : ℕ) → i < l.r → Tight l.course.exits l.levels.counts l.head l.count (rule_in l.course.plan i) → ⊥
