-- One set of rules, one file: an accepted record is its model's record, so records of models that agree up to the order of their rules are
-- the same. The marks of such a model are bytes, since they stand in the record.
use mathlib.Core.Bool.{Bool, true, false}
use mathlib.Core.List.{List, ◌++◌}
use mathlib.Core.Path.{◌≡◌, refl, sym, subst, ◌∙◌}
use Prim.Native.Nat.{ℕ, zero, suc}
use native.Mathlib.Omega.{arith}
use lib.ListN.{length, replicate}
use lib.Seq.{take_all}
use Rattle.model.specs.declared.Model.{Model}
use Rattle.model.specs.Bits.{all_zero, Bytes}
use Rattle.model.specs.Results.{accepted}
use Rattle.model.specs.UpToOrder.{UpToOrder, ByteMarks}
use Rattle.model.specs.Valid.{Places}
use Rattle.model.proofs.Bytes.{byte_at, ahead, behind}
use Rattle.record.specs.Reader.{read_of}
use Rattle.writer.specs.Writer.{field_of, rules_of, top_of, held_bytes, Second, second_of, second_map, second_fields, target_bytes, head_bytes, record_of}
use Rattle.writer.proofs.Alike.{one_record}
use Rattle.record.proofs.HeldMarks.{no_marks_lem}
use Rattle.record.proofs.Records.{front_forth, whole_front, read_kept}

-- Zeros are bytes.
zeros : (n : ℕ) → Bytes (replicate n 0)
zeros zero = tt
zeros (suc n) = (omega arith, zeros n)

-- Marks are bytes where those written are: if none is written, they are zeros.
marks_bytes : (l : List ℕ) → length l ≡ 8 → Bytes (held_bytes l) → Bytes l
unfolding held_bytes
marks_bytes l e h = go (all_zero l) refl
  where
    go : (b : Bool) → all_zero l ≡ b → Bytes l
    go true z = subst Bytes (sym (no_marks_lem l e z)) (zeros 8)
    go false z = subst Bytes (take_all 8 l (omega arith)) (rw z at h)

-- The marks stand in the record, behind the target and the tops.
record_marks : (m : Model) → Places m → Bytes (record_of m) → ByteMarks m
unfolding record_of head_bytes target_bytes second_fields
record_marks m p h =
    let x : Second = second_of m in
    let head = ahead (head_bytes m) _ (ahead (head_bytes m ++ rules_of m.a) _ h) in
    let fields : List ℕ = field_of 4 m.g ++ field_of 2 m.k ++ field_of 0 m.start.0 in
    let aim : List ℕ = target_bytes m.target.0 x in
    let before = ahead (fields ++ aim) (field_of 0 m.a.first.0) (ahead (fields ++ aim ++ field_of 0 m.a.first.0) _ head.1) in
    let target : Bytes (target_bytes m.target.0 x) = behind fields aim before in
    let second = behind (field_of 0 (second_map x)) (second_fields x) target.1 in
    let tops : List ℕ = top_of m.a.top ++ top_of m.b.top in
    let marks : List ℕ = tops ++ held_bytes m.a.held ++ held_bytes m.b.held in
    let up_to = ahead marks (field_of 16 m.a.symbols) (ahead (marks ++ field_of 16 m.a.symbols) _ second) in
    record {
      a = marks_bytes m.a.held p.held_a (behind tops (held_bytes m.a.held) (ahead (tops ++ held_bytes m.a.held) (held_bytes m.b.held) up_to));
      b = marks_bytes m.b.held p.held_b (behind (tops ++ held_bytes m.a.held) (held_bytes m.b.held) up_to);
    }

-- Accepted records whose models agree up to the order of their rules are the same bytes.
pub one_file : {bs cs rest more : List ℕ} {m n : Model} → Bytes bs → Bytes cs → read_of bs ≡ accepted (m, rest) → read_of cs ≡ accepted (n, more)
    → UpToOrder m n → bs ≡ cs
one_file {bs} {cs} {m = m} {n} x y e f s =
    let k = read_kept bs e (byte_at bs x 0) in
    let l = read_kept cs f (byte_at cs y 0) in
    let p = (front_forth bs (whole_front bs e)).places in
    let q = (front_forth cs (whole_front cs f)).places in
    let marks = record_marks m p (rw k.rewritten x) in
    let marks' = record_marks n q (rw l.rewritten y) in
    sym k.rewritten ∙ (one_record s k.valid l.valid p q marks marks' ∙ l.rewritten)
