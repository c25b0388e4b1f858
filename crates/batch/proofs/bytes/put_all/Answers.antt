use native.Mathlib.Omega.{arith}
use mathlib.Core.Path.{◌≡◌}
use lib.ListN.{length, take}
use lib.Seq.{length-take-le}
use Rattle.std.proofs.Common.{rules}
use Rattle.std.proofs.lemmas.List.{take_all}
use Rattle.writer.proofs.Outputs.{nothing, ◌then◌, lent}
use Rattle.batch.specs.Outcomes.{without}
use Rattle.batch.proofs.Listing.{one_more, length_outcomes}
use Rattle.batch.proofs.bytes.put_all.Goals as goal

pub loop-outcome-init : goal.loop-outcome-init
loop-outcome-init c = nothing _

pub put-requires : goal.put-requires
put-requires c =
    let all = c.args.all in
    let i = c.loop-outcome.outcome-index in
    let those : length (take all.count all.outcomes) ≡ all.count = length-take-le _ _ (omega arith) in
    let some : length (take i (take all.count all.outcomes)) ≡ i = length-take-le _ _ (omega arith) in
    omega (arith, length_outcomes (take i (take all.count all.outcomes)), c.loop-outcome-test.true)

pub loop-outcome-preserved : goal.loop-outcome-preserved
loop-outcome-preserved c =
    rw (one_more _ _ (without 0 0) c.loop-outcome-test.true) (c.loop-outcome.invariant then c.put.ensures)

pub returns : goal.returns
returns c =
    let every = rw (take_all _ _ c.loop-outcome-test.false) at c.loop-outcome.invariant in
    (lent c.new-out.ensures every (search rules)).stored
