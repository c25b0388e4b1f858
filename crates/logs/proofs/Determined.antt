-- The contract of `follow` is an equation, and two answers that equal a third are the same.
use mathlib.Core.List.{List}
use mathlib.Core.Path.{◌≡◌, sym, ◌∙◌}
use Prim.Native.Nat.{ℕ}
use Rattle.std.specs.Prelude.{Result}
use contract.Lifetimes.{Lfts}
use denote.Ref.{Bor}
use Rattle.model.specs.declared.Model.{Model}
use Rattle.model.specs.declared.refusal.Refusal.{Refusal}
use Rattle.model.proofs.Refusals.{told_names}
use Rattle.logs.specs.declared.Followed.{Followed}
use Rattle.logs.proofs.follow.Reads as follow

-- The contract determines the answer: two that meet it are the same. (`Post` is the contract's `ensures`, at the arguments, the answer and
-- the arguments at exit.)
pub follow_determined : (κs : Lfts 1) (m : Model) (log : Bor (List ℕ)) (r s : Result Followed Refusal)
    → follow.Post κs (m, (log, tt)) r (m, (log, tt)) → follow.Post κs (m, (log, tt)) s (m, (log, tt)) → r ≡ s
follow_determined κs m log r s p q = told_names r s (p ∙ sym q)
