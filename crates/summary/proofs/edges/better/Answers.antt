-- `better` meets its contract: its three comparisons are the definition's test.
use Rattle.summary.proofs.Rows.{offered}
use mathlib.Core.Path.{◌∙◌}
use Rattle.summary.proofs.edges.better.Goals as goal

pub returns : goal.returns
returns c = c.min-2.ensures ∙ rw (c.max.ensures, c.min.ensures) (offered _ _ _ c.requires.1 c.requires.2)
