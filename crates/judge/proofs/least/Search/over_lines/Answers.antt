use mathlib.Core.Path.{◌≡◌}
use Prim.Native.Nat.{ℕ, ◌*◌, ◌^◌}
use native.Mathlib.Omega.{arith}
use lib.ListN.{length-replicate}
use Rattle.model.specs.Schedules.{most_bytes}
use Rattle.draw.proofs.Refusals.{in_range}
use Rattle.judge.proofs.Adding.{lowest_all}
use Rattle.judge.proofs.Lowest.{lowest_none}
use Rattle.judge.proofs.least.Search.over_lines.Goals as goal

pub loop-v-init : goal.loop-v-init
loop-v-init c = (
  lowest_none c.args.self.now.m c.args.self.now.steps c.args.schedule.now,
  c.requires.tables,
  length-replicate {A = ℕ} most_bytes 0,
  omega arith,
)

pub returns : goal.returns
returns c =
    let m = c.args.self.now.m in
    let all : c.loop-v.v ≡ m.g ^ (2 * m.k) = omega arith in
    lowest_all (in_range m c.args.self.now.valid) c.requires.judged (rw all at c.loop-v.invariant.0)
