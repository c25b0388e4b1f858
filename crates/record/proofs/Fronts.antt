-- How many bytes a record at the front took: as many as are no longer left, since what was read is the record and then the rest.
use mathlib.Core.Bool.{Bool}
use mathlib.Core.List.{List, ◌++◌}
use mathlib.Core.Path.{◌≡◌, sym, ap}
use Prim.Native.Nat.{ℕ, ◌-◌, ◌≤◌, ◌<◌}
use native.Mathlib.Omega.{arith}
use lib.Dec.{leb}
use lib.ListN.{length, drop, get_or, length-append, drop_of_length-le}
use lib.Seq.{drop-append_seam, drop-cons}
use Rattle.std.proofs.lemmas.Bool.{leb-false}
use Rattle.model.specs.declared.Model.{Model}
use Rattle.model.specs.declared.refusal.Refusal.{Refusal}
use Rattle.model.specs.Refusals.{number_of}
use Rattle.model.specs.Results.{refused, accepted, refuse}
use Rattle.model.proofs.Refusals.{number_some}
use Rattle.record.specs.Reader.{Head, parse_head, parse_rules, parse_front, read_of}
use Rattle.record.specs.Held.{Reads, reading_of}
use Rattle.writer.specs.Writer.{record_of}
use Rattle.model.specs.declared.Rule.{Rule}
use Rattle.record.proofs.Heads.{head_with, head_forth}
use Rattle.record.proofs.ThreadRules.{rules_forth}
use Rattle.record.proofs.Refused.{in_order, refused_test}
use Rattle.record.proofs.Records.{front_forth}

-- A record that is refused at the front is refused ..
pub refused_too : (bs : List ℕ) {n : ℕ} → refused n ≡ parse_front bs → refused n ≡ reading_of (read_of bs)
unfolding read_of reading_of
refused_too bs e = rw (← e)

-- .. one that was read is read whole where it took all bytes ..
pub read_whole : (bs : List ℕ) {m : Model} {n : ℕ} → Reads bs (accepted (m, n)) (parse_front bs) → 0 ≡ refuse 6 (leb (length bs) n)
    → accepted m ≡ reading_of (read_of bs)
unfolding read_of reading_of
read_whole bs {m} {n} r e = rw (← r.same, drop_of_length-le bs (in_order 5 (length bs) n e))

-- .. and else refused, as bytes are left.
pub read_more : (bs : List ℕ) {m : Model} {n : ℕ} (x : Refusal) → Reads bs (accepted (m, n)) (parse_front bs)
    → number_of x ≡ refuse 6 (leb (length bs) n) → refused (number_of x) ≡ reading_of (read_of bs)
unfolding read_of reading_of
read_more bs {m} {n} x r e =
    let t = refused_test 6 (number_of x) (leb (length bs) n) (number_some x) e in
    let h : n < length bs = leb-false (length bs) n t.1 in
    rw (t.0, ← r.same, drop-cons bs n 0 h)

-- No more bytes are left after a head ..
pub head_shorter : (bs : List ℕ) {h : Head} {rest : List ℕ} → accepted (h, rest) ≡ parse_head bs → length rest ≤ length bs
unfolding head_with
head_shorter bs e = omega (arith, simp length-append at (ap length (head_forth bs (sym e)).bytes))

-- .. or a list of rules than there were.
pub rules_shorter : (present : Bool) (g : ℕ) (bs : List ℕ) {rs : List Rule} {rest : List ℕ}
    → accepted (rs, rest) ≡ parse_rules present g bs → length rest ≤ length bs
rules_shorter present g bs e = omega (arith, simp length-append at (ap length (rules_forth present g bs (sym e)).bytes))

module _ (bs : List ℕ) {m : Model} {rest : List ℕ} (k : get_or bs 0 0 < 256) (e : accepted (m, rest) ≡ parse_front bs) where
  -- The bytes are the record and the rest.
  split : bs ≡ record_of m ++ rest
  split = (front_forth bs (sym e)).bytes k

  -- So those behind what was taken are the rest.
  pub sized : Reads bs (accepted (m, length bs - length rest)) (parse_front bs)
  sized =
      let size : length bs - length rest ≡ length (record_of m) = omega (arith, ap length split, length-append (record_of m) rest) in
      let behind : drop (length bs - length rest) bs ≡ rest = rw (size, split) (drop-append_seam (record_of m) rest) in
      record { same = rw behind e; within = omega arith }
