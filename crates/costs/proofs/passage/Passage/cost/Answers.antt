use Rattle.costs.proofs.Entries.{none_gone, turn_more}
use Rattle.costs.proofs.passage.Passage.cost.Goals as goal

pub loop-j-init : goal.loop-j-init
loop-j-init g c =
    λ ends f s p. none_gone _ ends _ _ _ _ f s _ _ p.to c.args.self.few (c.lane.ensures.along ends p.first p.second) _ c.entry-best.ensures

pub loop-j-preserved : goal.loop-j-preserved
loop-j-preserved g c =
    λ ends f s p. turn_more _ ends _ _ _ f _ _ _ _ (c.over_states-best.ensures ends f s p) (c.loop-j.invariant ends f s p)
