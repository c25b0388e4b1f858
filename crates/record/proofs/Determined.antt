-- What `read` and `write` answer and leave stands in equations, and two things that equal a third are the same. The reader of the front
-- has equations for its model and for the bytes left, and how many are left says how many it took.
use mathlib.Core.List.{List}
use mathlib.Core.Path.{◌≡◌, sym, ap, ◌∙◌}
use Prim.Native.Nat.{ℕ, ◌≤◌}
use native.Mathlib.Omega.{arith}
use contract.Lifetimes.{Lfts}
use denote.Bor.{Bor}
use denote.Ref.{MutBor, at_last}
use lib.ListN.{length, drop, length-drop}
use Rattle.model.specs.declared.Model.{Model}
use Rattle.std.specs.Prelude.{Result, Ok, Err}
use Rattle.model.specs.declared.refusal.Refusal.{Refusal}
use Rattle.model.proofs.Refusals.{number_names, told_names}
use Rattle.model.proofs.Results.{apart, accepted_same}
use Rattle.record.specs.declared.Front.{Front}
use Rattle.record.specs.Held.{front_of, over, place_of}
use Rattle.record.proofs.read.Reads as read
use Rattle.record.proofs.reader.front.Reads as front
use Rattle.record.proofs.write.Reads as write

-- Two readings of the front that stand for the same are the same: where the same model and the same bytes left come of them, as many were
-- taken.
same_front : (s : List ℕ) (a b : Result Front Refusal) → over s (front_of a) ≡ over s (front_of b)
    → place_of (front_of a) ≤ length s → place_of (front_of b) ≤ length s → a ≡ b
same_front s (Ok f) (Ok g) e h k =
    let z = accepted_same e in
    let left : length (drop f.size s) ≡ length (drop g.size s) = ap (λ x. length x.1) z in
    let size : f.size ≡ g.size = omega (arith, length-drop f.size s, length-drop g.size s) in
    let model : f.model ≡ g.model = ap (λ x. x.0) z in
    λ i. Ok (record { model = model i; size = size i })
same_front s (Ok f) (Err r) e h k = apart (sym e)
same_front s (Err r) (Ok f) e h k = apart e
same_front s (Err r) (Err t) e h k = ap Err (number_names r t (cc))

-- Each contract is `Post`, of the arguments, the answer and the arguments at exit. Two results that meet it are the same: it determines ..

-- .. the answer of `read` with its model, ..
pub read_determined : (κs : Lfts 1) (bytes : Bor (List ℕ)) (r s : Result Model Refusal)
    → read.Post κs (bytes, tt) r (bytes, tt) → read.Post κs (bytes, tt) s (bytes, tt) → r ≡ s
read_determined κs bytes r s p q = told_names r s (p.0 ∙ sym q.0)

-- .. the answer of `write` and every byte of the store, ..
pub write_determined : (κs : Lfts 1) (m : Model) (store : MutBor (List ℕ)) (r s : Result ℕ Refusal) (new new' : List ℕ)
    → write.Post κs (m, (store, tt)) r (m, (at_last store new, tt)) → write.Post κs (m, (store, tt)) s (m, (at_last store new', tt))
    → (r ≡ s) × (new ≡ new')
write_determined κs m store r s new new' p q = (told_names r s (p.0 ∙ sym q.0), p.1.0 ∙ sym q.1.0)

-- .. and the answer of the reader of the front, with its model.
pub front_determined : (κs : Lfts 1) (bytes : Bor (List ℕ)) (r s : Result Front Refusal)
    → front.Post κs (bytes, tt) r (bytes, tt) → front.Post κs (bytes, tt) s (bytes, tt) → r ≡ s
front_determined κs bytes r s p q = same_front bytes.now r s (p.same ∙ sym q.same) p.within q.within
