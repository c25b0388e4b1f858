-- The contract of `replay` is an equation, and two answers that equal a third are the same.
use mathlib.Core.List.{List}
use mathlib.Core.Path.{◌≡◌, sym, ◌∙◌}
use Prim.Native.Nat.{ℕ}
use Rattle.std.specs.Prelude.{Result}
use contract.Lifetimes.{Lfts}
use denote.Ref.{Bor}
use Rattle.model.specs.declared.Model.{Model}
use Rattle.model.specs.declared.refusal.Refusal.{Refusal}
use Rattle.model.proofs.Refusals.{told_names}
use Rattle.replay.specs.declared.Replayed.{Replayed}
use Rattle.replay.proofs.replay.Reads as replay

-- The contract determines the answer: two that meet it are the same. (`Post` is the contract's `ensures`, at the arguments, the answer and
-- the arguments at exit.)
pub replay_determined : (κs : Lfts 1) (m : Model) (schedule : Bor (List ℕ)) (r s : Result Replayed Refusal)
    → replay.Post κs (m, (schedule, tt)) r (m, (schedule, tt)) → replay.Post κs (m, (schedule, tt)) s (m, (schedule, tt)) → r ≡ s
replay_determined κs m schedule r s p q = told_names r s (p ∙ sym q)
