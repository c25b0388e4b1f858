-- `prepare` meets its contract: the plan has the line's turn ends, and the table is solved for them.
use mathlib.Core.Path.{sym}
use native.Mathlib.Omega.{arith}
use Rattle.run.proofs.Bases.{end_read, exact_same, prepared}
use Rattle.run.proofs.steps.prepare.Goals as goal

pub for_line-requires-clause-inside : goal.for_line-requires-clause-inside
for_line-requires-clause-inside c =
    let e = c.along-plan.result.in_range.inside 0 (omega arith) in
    let states = c.along-plan.ensures.states in (omega (arith, e.0, states), omega (arith, e.1, states))

pub returns-then-known-clause-prepared : goal.returns-then-known-clause-prepared
returns-then-known-clause-prepared c =
    let plan = c.along-plan.ensures in
    prepared c.requires.room plan.planned plan.states plan.turn_ends plan.ends c.requires.base (c.requires.known c.if-known.true)

pub returns-clause-solved : goal.returns-clause-solved
returns-clause-solved c =
    λ two. let x = end_read (c.along-plan.ensures.ends 0 (omega (arith, two))) in
    exact_same (sym x.0) (sym x.1) (c.for_line.ensures.exact two)

pub returns-clause-prepared : goal.returns-clause-prepared
returns-clause-prepared c =
    let plan = c.along-plan.ensures in
    prepared (omega (arith, c.requires.room)) plan.planned plan.states plan.turn_ends plan.ends c.for_line.ensures.base (returns-clause-solved c)
