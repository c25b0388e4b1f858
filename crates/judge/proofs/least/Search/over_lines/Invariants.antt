-- `over_lines` meets its contract. The invariant: the store holds the least schedule over the lines below v.
use mathlib.Core.Path.{◌≡◌}
use lib.ListN.{length}
use Rattle.std.specs.Option.{is_some}
use Rattle.model.specs.Schedules.{most_bytes}
use Rattle.witness.specs.Solves.{Solves}
use Rattle.judge.specs.Least.{Lowest}
use Rattle.judge.proofs.least.Search.over_lines.Given as goal

abbrev pub invariant-loop-v : goal.invariant-loop-v
invariant-loop-v l =
    Lowest l.self.m l.self.steps l.v l.initial.schedule l.schedule (is_some l.last) × Solves l.self.m l.last l.first l.second
    × (length l.fresh ≡ most_bytes) × (length l.schedule ≡ most_bytes)
