-- `count` meets its contract. The invariant: r of the first v bits stand.
use mathlib.Core.Path.{◌≡◌}
use Prim.Native.Nat.{◌+◌, ◌≤◌}
use Rattle.model.specs.Bits.{bit_at}
use Rattle.report.specs.Text.{count_of}
use Rattle.report.proofs.lines.count.Given as goal

abbrev pub invariant-loop-v : goal.invariant-loop-v
invariant-loop-v l = (l.r ≤ l.v) × (l.r ≡ count_of (λ w. bit_at l.table (l.from + w)) l.v)
