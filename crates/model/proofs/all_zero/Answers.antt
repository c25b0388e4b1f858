-- `all_zero` meets its contract: bytes are all 0 exactly if they equal as many zeros.
use mathlib.Core.Path.{◌∙◌}
use Rattle.std.proofs.Common.{rules}
use Rattle.model.proofs.Marks.{zeros}
use Rattle.model.proofs.all_zero.Goals as goal

pub returns : goal.returns
returns c = c.eq.ensures ∙ zeros c.args.marks 8 (search rules)
