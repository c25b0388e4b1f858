-- The answer's number is an equation, and names the answer; by the answer the store holds the line table, which leaves no bit open, or
-- what it held.
use mathlib.Core.List.{List}
use mathlib.Core.Path.{◌≡◌, sym, subst, ◌∙◌}
use Prim.Native.Nat.{ℕ}
use contract.Lifetimes.{Lfts}
use denote.Ref.{MutBor, at_last}
use Rattle.std.specs.Prelude.{Result, Ok, Err}
use Rattle.model.specs.declared.Model.{Model}
use Rattle.model.specs.declared.refusal.Refusal.{Refusal}
use Rattle.model.specs.Bits.{Bytes}
use Rattle.model.proofs.Refusals.{due_names}
use Rattle.draw.proofs.Determined.{table_determined}
use Rattle.reach.specs.Answer.{Leaves}
use Rattle.reach.proofs.lines.Reads as lines

-- What an answer leaves in a store of bytes is determined.
pub leaves_determined : (m : Model) (r : Result (Unit {0}) Refusal) (old new new' : List ℕ) → Bytes new → Bytes new'
    → Leaves m r old new → Leaves m r old new' → new ≡ new'
leaves_determined m (Ok x) old new new' small small' p q = table_determined m p q small small'
leaves_determined m (Err r) old new new' small small' p q = p ∙ sym q

-- The contract (`Post`, of the arguments, the answer and the arguments at exit) determines the answer and every byte of the store: two
-- results that meet it are the same. That the store holds bytes at exit is what its type says.
pub lines_determined : (κs : Lfts 1) (m : Model) (store : MutBor (List ℕ)) (r s : Result (Unit {0}) Refusal) (new new' : List ℕ) → Bytes new
    → Bytes new' → lines.Post κs (m, (store, tt)) r (m, (at_last store new, tt))
    → lines.Post κs (m, (store, tt)) s (m, (at_last store new', tt)) → (r ≡ s) × (new ≡ new')
lines_determined κs m store r s new new' small small' p q =
    let same = due_names s r (q.0 ∙ sym p.0) in
    (sym same, leaves_determined m r store.now new new' small small' p.1 (subst (λ a. Leaves m a store.now new') same q.1))
