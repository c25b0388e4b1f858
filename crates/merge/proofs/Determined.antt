-- The contract of `merge` has an equation for its answer, and two answers that equal a third are the same.
use mathlib.Core.Path.{◌≡◌, sym, ◌∙◌}
use Rattle.std.specs.Prelude.{Result}
use Rattle.model.specs.declared.Model.{Model}
use Rattle.model.specs.declared.refusal.Refusal.{Refusal}
use Rattle.model.proofs.Refusals.{told_names}
use Rattle.merge.proofs.merge.Reads as merge

-- The contract (`Post`, of the arguments, the answer and the arguments at exit) determines the answer with its model: two that meet it are
-- the same.
pub merge_determined : (m n : Model) (r s : Result Model Refusal)
    → merge.Post tt (m, (n, tt)) r (m, (n, tt)) → merge.Post tt (m, (n, tt)) s (m, (n, tt)) → r ≡ s
merge_determined m n r s p q = told_names r s (p.0 ∙ sym q.0)
