use native.Mathlib.Omega.{arith}
use mathlib.Core.List.{List}
use mathlib.Core.Path.{refl, ap}
use Prim.Native.Nat.{ℕ}
use Rattle.run.specs.declared.levels.Levels.{Levels}
use Rattle.run.proofs.Raising.{raising_none, raising_over, raising_one}
use Rattle.run.proofs.levels.Levels.push.Goals as goal
use Rattle.run.proofs.levels.Levels.push.Goals.{then-x-course, else-x-course}

pub loop-x-init : goal.loop-x-init
loop-x-init c = (raising_none c.args.self.now.size, refl)

pub loop-x-preserved : goal.loop-x-preserved
loop-x-preserved c =
    let counts : Levels → List ℕ = λ s. s.counts in
    let symbols : Levels → List ℕ = λ s. s.symbols in
    let two = c.args.course.now.plan.in_range.two in
    elim c.if-x-course.branch [
      | then-x-course w ↦
          rw (ap counts w.self-is, ap symbols w.self-is)
          (raising_one c.loop-x.invariant.0 c.requires.0 (omega (arith, c.loop-x-test.true, two)) w.over_level.ensures.0, c.loop-x.invariant.1)
      | else-x-course w ↦
          rw (ap counts w.self-is, ap symbols w.self-is) (raising_over w.if-x-course.false c.loop-x.invariant.0, c.loop-x.invariant.1)
    ]

pub returns-clause-kept : goal.returns-clause-kept
returns-clause-kept c = c.loop-x.invariant.0.kept

pub returns-clause-raised : goal.returns-clause-raised
returns-clause-raised c = λ x a b k. c.loop-x.invariant.0.done x a (omega (arith, b, c.loop-x-test.false)) k
