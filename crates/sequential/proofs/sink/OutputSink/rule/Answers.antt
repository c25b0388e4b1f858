-- `rule` of an output meets its contract: where there is room for the line's bytes, they fit behind the place.
use native.Mathlib.Omega.{arith}
use Rattle.std.proofs.Common.{rules}
use Rattle.sequential.proofs.Widths.{length_rule}
use Rattle.sequential.proofs.sink.OutputSink.rule.Goals as goal

pub put_line-requires : goal.put_line-requires
put_line-requires c = omega (arith, length_rule c.args.r (search rules) (search rules))
