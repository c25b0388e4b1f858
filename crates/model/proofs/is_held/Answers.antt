-- `is_held` meets its contract: beyond rule number 63 there is no mark.
use mathlib.Core.Path.{sym}
use Rattle.std.proofs.Common.{rules}
use Rattle.model.proofs.Marks.{bit_beyond}
use Rattle.model.proofs.is_held.Goals as goal

pub returns-then-r-ge64 : goal.returns-then-r-ge64
returns-then-r-ge64 c = sym (bit_beyond c.args.marks c.args.r (search rules) c.if-r-ge64.true)
