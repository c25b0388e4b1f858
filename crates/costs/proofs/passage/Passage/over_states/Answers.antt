use mathlib.Core.Path.{refl}
use Rattle.costs.proofs.Entries.{one_more}
use Rattle.costs.specs.Cost.{over_states}
use Rattle.costs.proofs.passage.Passage.over_states.Goals as goal

pub loop-q-init : goal.loop-q-init
unfolding over_states
loop-q-init g c = λ ends f s p. refl

pub loop-q-preserved : goal.loop-q-preserved
loop-q-preserved g c =
    λ ends f s p.
    one_more _ ends _ _ _ _ f s _ _ p.to c.args.self.few (c.lane-last.ensures.along ends p.first p.second) _ _ _ _ _ _ _ _ c.requires
    (c.lane-before.ensures.along ends p.first p.second) c.entry-gone.ensures c.entry-rest.ensures c.joined-best.ensures
    (c.loop-q.invariant ends f s p)
