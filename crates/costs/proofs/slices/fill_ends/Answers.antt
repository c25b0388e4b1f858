use Rattle.costs.proofs.Filled.{where_map, known_all}
use Rattle.costs.proofs.slices.fill_ends.Goals as goal

pub returns : goal.returns
returns c =
    record {
      any = known_all c.requires.ends c.loop-o-test.false c.loop-o.invariant.any;
      named = where_map c.loop-o.invariant.named (λ f. known_all c.requires.ends c.loop-o-test.false);
    }
