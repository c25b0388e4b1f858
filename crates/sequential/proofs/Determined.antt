-- The contract of `print` has an equation for its answer and one for its store, and two things that equal a third are the same.
use mathlib.Core.List.{List}
use mathlib.Core.Path.{◌≡◌, sym, ◌∙◌}
use Prim.Native.Nat.{ℕ}
use contract.Lifetimes.{Lfts}
use Rattle.std.specs.Prelude.{Result}
use denote.Ref.{MutBor, at_last}
use Rattle.model.specs.declared.Model.{Model}
use Rattle.model.specs.declared.refusal.Refusal.{Refusal}
use Rattle.model.proofs.Refusals.{told_names}
use Rattle.sequential.proofs.print.Reads as print

-- The contract (`Post`, of the arguments, the answer and the arguments at exit) determines the answer and every byte of the store: two
-- results that meet it are the same.
pub print_determined : (κs : Lfts 1) (m : Model) (store : MutBor (List ℕ)) (r s : Result ℕ Refusal) (new new' : List ℕ)
    → print.Post κs (m, (store, tt)) r (m, (at_last store new, tt))
    → print.Post κs (m, (store, tt)) s (m, (at_last store new', tt))
    → (r ≡ s) × (new ≡ new')
print_determined κs m store r s new new' p q = (told_names r s (p.0 ∙ sym q.0), p.1 ∙ sym q.1)
