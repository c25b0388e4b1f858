-- In the pair writer the second symbol's level is made, and the stretch writer goes on above it. In the stretch writer each case of the
-- code is one step of the greedy choice: it stops, ends the turn, or makes the first rule that is tight its first step.
use mathlib.Core.Path.{refl, ap}
use Prim.Native.Nat.{◌+◌, ◌≤◌, ◌<◌}
use native.Mathlib.Omega.{arith}
use Rattle.model.specs.Schedules.{most_steps}
use Rattle.run.specs.declared.head.Head.{Head}
use Rattle.run.proofs.Pairing.{put_stack_lem, put_ready}
use Rattle.run.proofs.Writers.{entered_fits, step_fits, stopped, turn_left, turn_ready, turned, step_ready, stepped, emptied}
use Rattle.run.proofs.stretch.+pair_stretch.Goals as goal

pub pair-stretch-requires : goal.pair-stretch-requires
pair-stretch-requires t c =
    let f = c.requires.0 in (
      omega (arith, c.decreases, c.args.course.now.plan.in_range.two),
      (record { passed = f.passed; control = f.control; symbol = f.symbol }, omega (arith, c.requires.2), omega (arith, c.requires.3)),
    )

pub pair-returns : goal.pair-returns
pair-returns t c =
    let a = c.args in
    let h = a.head.now in
    let room : h.under + 1 < 4096 = omega (arith, c.requires.2) in
    let writes = rw c.push.ensures.symbols at c.stretch.ensures in
    λ w r. rw (put_stack_lem a.levels.now.symbols h _ a.second h.under a.levels.now.room room refl) at
    (writes w (put_ready w a.levels.now.room room c.requires.1 c.push.ensures.kept c.push.ensures.raised r.known _ r refl refl))

pub stretch-returns-then-count-eq0 : goal.stretch-returns-then-count-eq0
stretch-returns-then-count-eq0 t c = λ w r. stopped w _ _ r c.if-count-eq0.true

pub stretch-stretch-requires : goal.stretch-stretch-requires
stretch-stretch-requires t c =
    let e = c.next_turn.ensures in (
      omega (arith, c.decreases, ap (λ (h : Head). h.passed) e, c.if-head-course.true),
      (entered_fits c.requires.0 c.if-head-course.true e, omega (arith, c.requires.1, ap (λ (h : Head). h.under) e), c.requires.2),
    )

-- Where the search found no rule none is tight.
pub stretch-returns-then-head-course : goal.stretch-returns-then-head-course
stretch-returns-then-head-course t c =
    let e = c.next_turn.ensures in
    let none = rw c.in_default.is at c.first_rule.ensures in
    let low : 0 < c.args.count = omega (arith, c.if-count-eq0.false) in
    let most : c.args.count ≤ most_steps = omega (arith, c.requires.1) in
    λ w r. turned w c.requires.0 low most r none (rw e at c.stretch.ensures w (turn_ready w c.requires.0 low most r none))

pub stretch-returns-else-head-course : goal.stretch-returns-else-head-course
stretch-returns-else-head-course t c =
    let none = rw c.in_default.is at c.first_rule.ensures in
    λ w r. absurd
    (omega (
      arith,
      c.if-head-course.false,
      turn_left w c.requires.0 (omega (arith, c.if-count-eq0.false)) (omega (arith, c.requires.1)) r none,
    ))

pub stretch-stretch-requires-in-One : goal.stretch-stretch-requires-in-One
stretch-stretch-requires-in-One t c =
    let rule = rw c.in-Some.is at c.first_rule.ensures in
    let s = rw c.in-One.is at c.after_rule.ensures in
    let f = step_fits _ c.requires.0 rule.0 s in
    let low = c.if-count-eq0.false in (
      omega (arith, c.decreases, f.passed, low, c.args.course.now.plan.in_range.two),
      (f, omega (arith, c.requires.1, s.under, low), omega (arith, c.requires.2, low)),
    )

pub stretch-pair-requires : goal.stretch-pair-requires
stretch-pair-requires t c =
    let rule = rw c.in-Some.is at c.first_rule.ensures in
    let s = rw c.in-Two.is at c.after_rule.ensures in
    let f = step_fits _ c.requires.0 rule.0 s.0 in
    let low = c.if-count-eq0.false in
    (omega (arith, c.decreases, low), (f, s.1, omega (arith, c.requires.1, s.0.under, low), omega (arith, c.requires.2, low)))

pub stretch-returns-in-Done : goal.stretch-returns-in-Done
stretch-returns-in-Done t c =
    let rule = rw c.in-Some.is at c.first_rule.ensures in
    let low : 0 < c.args.count = omega (arith, c.if-count-eq0.false) in
    let most : c.args.count ≤ most_steps = omega (arith, c.requires.1) in
    λ w r. emptied w c.requires.0 low most r _ rule.0 rule.1 rule.2 (rw c.in-Done.is at c.after_rule.ensures) c.put_step.ensures

-- From where the chosen rule leads the next writer is ready, and what it writes comes behind it.
pub stretch-returns-in-One : goal.stretch-returns-in-One
stretch-returns-in-One t c =
    let rule = rw c.in-Some.is at c.first_rule.ensures in
    let low : 0 < c.args.count = omega (arith, c.if-count-eq0.false) in
    let most : c.args.count ≤ most_steps = omega (arith, c.requires.1) in
    let s = rw c.in-One.is at c.after_rule.ensures in
    let writes = rw c.put_step.ensures at c.stretch-in-One.ensures in
    λ w r. stepped w c.requires.0 low most r _ rule.0 rule.1 rule.2 s
    (writes w (step_ready w c.requires.0 low most r _ rule.0 rule.1 rule.2 s))

pub stretch-returns-in-Two : goal.stretch-returns-in-Two
stretch-returns-in-Two t c =
    let rule = rw c.in-Some.is at c.first_rule.ensures in
    let low : 0 < c.args.count = omega (arith, c.if-count-eq0.false) in
    let most : c.args.count ≤ most_steps = omega (arith, c.requires.1) in
    let s = rw c.in-Two.is at c.after_rule.ensures in
    let writes = rw c.put_step.ensures at c.pair.ensures in
    λ w r. stepped w c.requires.0 low most r _ rule.0 rule.1 rule.2 s.0
    (writes w (step_ready w c.requires.0 low most r _ rule.0 rule.1 rule.2 s.0))
