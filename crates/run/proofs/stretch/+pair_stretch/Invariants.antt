-- The two writers meet their contracts together. What falls with each call: eight for each step still to be written, so that turn ends,
-- which take no step, and the call of the pair writer, which takes none either, fit between.
use Prim.Native.Nat.{◌+◌, ◌*◌, ◌-◌}
use Rattle.run.proofs.stretch.+pair_stretch.Given as goal

abbrev pub decreases-pair : goal.decreases-pair
decreases-pair l = 8 * l.count + 4

abbrev pub decreases-stretch : goal.decreases-stretch
decreases-stretch l = 8 * l.count + (l.course.now.plan.n - l.head.now.passed)
