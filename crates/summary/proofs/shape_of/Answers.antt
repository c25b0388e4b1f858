-- `shape_of` meets its contract: with more than four controls all sixteen destinations are used.
use native.Mathlib.Omega.{arith}
use borrow.Author.Tests.{le-ltb, lt-ltb}
use Rattle.summary.proofs.Numbers.{stays_after, stays_range}
use Rattle.summary.proofs.shape_of.Goals as goal
use Rattle.summary.proofs.shape_of.Goals.{then-controls-gt4, else-controls-gt4}

pub invariant_of-result : goal.invariant_of-result
invariant_of-result c =
    let end = c.stays_of-stays.ensures.0 in
    let after = stays_after c.args.top in
    let range = stays_range c.args.top in
    elim c.if-controls-gt4.branch [
      | then-controls-gt4 w ↦ record { fits = omega (arith, w.result-is, c.requires) }
      | else-controls-gt4 w ↦ record { fits = omega (arith, w.result-is, c.requires) }
    ]

pub returns : goal.returns
returns c =
    elim c.if-controls-gt4.branch [
      | then-controls-gt4 w ↦ rw (w.result-is, c.stays_of-stays.ensures.0, stays_after c.args.top, lt-ltb _ _ w.if-controls-gt4.true)
      | else-controls-gt4 w ↦ rw (w.result-is, c.stays_of-stays.ensures.0, stays_after c.args.top, le-ltb _ _ w.if-controls-gt4.false)
    ]
