use Rattle.summary.specs.Control.{any}
use Rattle.costs.proofs.Filled.{where_map, where_both, known_next, known_left}
use Rattle.costs.proofs.slices.fill_from.Goals as goal

pub loop-i-preserved : goal.loop-i-preserved
loop-i-preserved c =
    let taken = c.loop-i-test.true in
    let exact = c.close_second.ensures.exact in
    record {
      solved = c.close_second.ensures.solved;
      any = known_next c.requires.ends.0 any taken exact c.fill_slice.ensures.any c.loop-i.invariant.any;
      named = where_both c.fill_slice.ensures.named c.loop-i.invariant.named (λ f k. known_next c.requires.ends.0 k taken exact);
    }

pub returns : goal.returns
returns c =
    let loop = c.loop-i.invariant in
    let over = c.loop-i-test.false in
    record {
      solved = loop.solved;
      any = known_left _ c.requires.ends.0 over loop.any;
      named = where_map loop.named (λ f. known_left _ c.requires.ends.0 over);
    }
