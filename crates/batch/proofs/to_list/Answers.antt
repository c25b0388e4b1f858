use mathlib.Core.Path.{◌≡◌}
use native.Mathlib.Omega.{arith}
use Rattle.batch.specs.Outcomes.{without}
use Rattle.batch.proofs.Answering.{listed}
use Rattle.batch.proofs.Listing.{sets_next}
use Rattle.batch.proofs.to_list.Goals as goal

pub loop-i-preserved : goal.loop-i-preserved
loop-i-preserved c =
    let all = c.in_ok-all in
    rw c.loop-i.invariant
    (sets_next all.all.outcomes c.args.list.now c.loop-i.i (without 0 0) (omega (arith, all.ensures.1, all.ensures.2, c.loop-i-test.true)))

pub returns : goal.returns
returns c =
    let all = c.in_ok-all in
    let every : c.loop-i.i ≡ all.all.count = omega (arith, c.loop-i-test.false) in
    listed _ all.ensures.3 (rw every at c.loop-i.invariant)
