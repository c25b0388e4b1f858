-- Marks of held rules both ways: eight bytes that are not all zero are read as they are written, and absent ones are eight zeros.
use mathlib.Core.Bool.{Bool, true, false, not}
use mathlib.Core.List.{List, [], ◌∷◌, ◌++◌}
use mathlib.Core.Path.{◌≡◌, refl, sym, ap, ◌∙◌}
use Prim.Native.Nat.{ℕ}
use native.Mathlib.Omega.{arith}
use lib.Dec.{T, T_not, leb, eqb}
use lib.ListN.{length, take, replicate, length-append, take-append-drop}
use lib.Seq.{take_all, take_at, drop_at, length-take-le}
use borrow.Author.Tests.{le-leb}
use Rattle.model.specs.declared.Model.{Model}
use Rattle.model.specs.Bits.{all_zero}
use Rattle.model.specs.Results.{accepted, first_of}
use Rattle.model.specs.Valid.{mark_fault, marks_fault}
use Rattle.model.proofs.Marks.{all_free}
use Rattle.model.proofs.Results.{checked}
use Rattle.model.proofs.Tests.{both, order, equal, failed}
use Rattle.model.specs.Zero.{no_marks}
use Rattle.record.specs.Reader.{parse_marks}
use Rattle.writer.specs.Writer.{held_bytes}
use Rattle.record.proofs.OneField.{carried}

-- Bytes that are all zero are that many zeros.
zeros : (l : List ℕ) → T (all_zero l) → l ≡ replicate (length l) 0
unfolding all_zero
zeros [] t = refl
zeros (b ∷ l) t =
    let z = (both (eqb b 0) (all_zero l)).0 t in
    let first : b ≡ 0 = (equal b 0).0 z.0 in
    rw (first, ← zeros l z.1)

-- So eight of them are no marks.
pub no_marks_lem : (l : List ℕ) → length l ≡ 8 → all_zero l ≡ true → l ≡ no_marks
no_marks_lem l e z = zeros l (rw z tt) ∙ ap (λ n. replicate n 0) e

-- Marks that are written are read.
pub marks_back : (l : List ℕ) → length l ≡ 8 → (rest : List ℕ) {present : Bool} → present ≡ not (all_zero l)
    → parse_marks present (held_bytes l ++ rest) ≡ accepted (l, rest)
unfolding parse_marks held_bytes
marks_back l e rest {present} p = go (all_zero l) refl
  where
    go : (b : Bool) → all_zero l ≡ b → parse_marks present (held_bytes l ++ rest) ≡ accepted (l, rest)
    go true z = rw (p, z, no_marks_lem l e z)
    go false z =
        let all : take 8 l ≡ l = take_all 8 l (omega arith) in
        let room : leb 8 (length (l ++ rest)) ≡ true = le-leb 8 (length (l ++ rest)) (simp length-append (omega arith)) in
        rw (p, z, all, room, take_at l rest 8 e, drop_at l rest 8 e, z)

-- What reading marks tells.
pub record MarksRead (present : Bool) (l bs rest : List ℕ) : Type 0 where
  pub bytes : bs ≡ held_bytes l ++ rest
  pub stands : present ≡ not (all_zero l)
  pub size : length l ≡ 8

-- Marks that are read were written so.
pub marks_forth : (present : Bool) (bs : List ℕ) {l rest : List ℕ} → parse_marks present bs ≡ accepted (l, rest)
    → MarksRead present l bs rest
unfolding parse_marks held_bytes all_zero
marks_forth false bs e = carried (λ l rest. MarksRead false l bs rest) e (record { bytes = refl; stands = refl; size = refl })
marks_forth true bs e =
    checked 1 (leb 8 (length bs)) e λ t f.
    checked 5 (not (all_zero (take 8 bs))) f λ n v.
    let size : length (take 8 bs) ≡ 8 = length-take-le 8 bs ((order 8 (length bs)).0 t) in
    let some : all_zero (take 8 bs) ≡ false = failed (all_zero (take 8 bs)) (T_not (all_zero (take 8 bs)) n) in
    carried (λ l rest. MarksRead true l bs rest) v
    (record {
      bytes = rw (some, take_all 8 (take 8 bs) (omega arith)) (sym (take-append-drop 8 bs));
      stands = rw some;
      size = size;
    })

-- Marks of which none stands are on no rule that a list lacks ..
no_fault : (marks : List ℕ) (count : ℕ) → all_zero marks ≡ true → mark_fault marks count ≡ 0
unfolding mark_fault
no_fault marks count z = rw (all_free marks count z)

-- .. so a model without marks has no fault of them.
pub unheld : (m : Model) → all_zero m.a.held ≡ true → all_zero m.b.held ≡ true → marks_fault m ≡ 0
unfolding marks_fault first_of
unheld m a b = rw (no_fault m.a.held m.a.count a, no_fault m.b.held m.b.count b)
