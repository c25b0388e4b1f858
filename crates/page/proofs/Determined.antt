-- The contract of `page` has an equation for its answer and one for its store, and two things that equal a third are the same.
use mathlib.Core.List.{List}
use mathlib.Core.Path.{◌≡◌, sym, ◌∙◌}
use Prim.Native.Nat.{ℕ}
use contract.Lifetimes.{Lfts}
use Rattle.std.specs.Prelude.{Result}
use denote.Ref.{Bor, MutBor, at_last}
use Rattle.model.specs.declared.Model.{Model}
use Rattle.model.specs.declared.refusal.Refusal.{Refusal}
use Rattle.model.proofs.Refusals.{told_names}
use Rattle.page.proofs.page.Reads as page

-- The contract (`Post`, of the arguments, the answer and the arguments at exit) determines the answer and every byte of the store: two
-- results that meet it are the same.
pub page_determined : (κs : Lfts 2) (m : Model) (schedule : Bor (List ℕ)) (store : MutBor (List ℕ)) (r s : Result ℕ Refusal) (new new' : List ℕ)
    → page.Post κs (m, (schedule, (store, tt))) r (m, (schedule, (at_last store new, tt)))
    → page.Post κs (m, (schedule, (store, tt))) s (m, (schedule, (at_last store new', tt)))
    → (r ≡ s) × (new ≡ new')
page_determined κs m schedule store r s new new' p q = (told_names r s (p.0 ∙ sym q.0), p.1 ∙ sym q.1)
