-- Whole records both ways: part by part, and the map is the sum of the bits of its fields. So every accepted record is
-- rewritten byte for byte, and every valid model survives writing and reading.
use mathlib.Core.Bool.{not}
use mathlib.Core.List.{List, [], ◌∷◌, ◌++◌, append_assoc, append-nil}
use mathlib.Core.Path.{◌≡◌, refl, sym, ap, subst, ◌∙◌}
use Prim.Native.Nat.{ℕ, ◌-◌, ◌≤◌, ◌<◌}
use native.Mathlib.Omega.{arith}
use lib.Dec.{eqb}
use lib.ListN.{length, get_or, take, replicate, length-append, length-replicate, get_or-append}
use lib.Seq.{drop-append_seam, length-take-le, get_or-take}
use Rattle.model.specs.declared.Model.{Model}
use Rattle.model.specs.declared.Rule.{Rule}
use Rattle.model.specs.declared.Thread.{Thread}
use Rattle.model.specs.Bits.{bit}
use Rattle.model.specs.Results.{refused, accepted}
use Rattle.model.specs.Rules.{zero_rule}
use Rattle.model.specs.Valid.{Valid, cross_fault, SameThread, Same, Places}
use Rattle.model.proofs.Alike.{same_valid}
use Rattle.model.proofs.Ranges.{crossed, valid_fits}
use Rattle.model.proofs.Results.{apart, accepted_same, undue}
use Rattle.model.specs.Zero.{Unused}
use Rattle.record.specs.Kept.{Kept}
use Rattle.record.specs.Held.{reading_of}
use Rattle.record.specs.Reader.{Read, announces, parse_rules, Head, parse_head, thread_from, model_of, parse_front, ended, read_of}
use Rattle.record.specs.Older.{target_byte}
use Rattle.record.specs.Written.{ReadsBack}
use Rattle.writer.specs.Writer.{weight_of, rules_of, map_of, extra_in, second_of, second_map, head_bytes, record_of}
use Rattle.record.proofs.OneField.{parted, carried, value_same}
use Rattle.record.proofs.Maps.{HeadBits, head_sum_lem}
use Rattle.record.proofs.ThreadRules.{rules_back, RulesRead, rules_forth, thread_fits, rules_bytes}
use Rattle.record.proofs.Heads.{head_of, head_with, map_bits, head_back, HeadRead, head_forth}

-- A model with its unused places zero.
pub tidy : Model → Model
tidy m = model_of (head_of m) (take m.a.count m.a.rules) (take m.b.count m.b.rules)

-- A thread with its unused places zero is the same thread.
tidy_same : (t : Thread) → length t.rules ≡ 64 → t.count ≤ 64
    → SameThread t (thread_from t.first.0 (extra_in t) (take t.count t.rules))
tidy_same t n k =
    let used : List Rule = take t.count t.rules in
    let size : length used ≡ t.count = length-take-le t.count t.rules (omega arith) in
    record {
      symbols = refl;
      first = refl;
      top = refl;
      held = refl;
      count = sym size;
      rules = λ r h. sym (get_or-append used (replicate (64 - length used) zero_rule) zero_rule r (omega arith) ∙ get_or-take t.count t.rules r zero_rule h);
    }

-- A model with its unused places zero is the same model.
pub tidy_model : (m : Model) → Valid m → Places m → Same m (tidy m)
unfolding tidy head_of
tidy_model m v p =
    let f = (valid_fits m).0 v in
    record {
      g = refl;
      k = refl;
      start = refl;
      target = refl;
      a = tidy_same m.a p.a f.a.count;
      b = tidy_same m.b p.b f.b.count;
    }

-- A record, as its head and its rules.
record_bytes : (m : Model) (rest : List ℕ)
    → record_of m ++ rest ≡ head_with (head_of m) (rules_of m.a ++ (rules_of m.b ++ rest))
unfolding record_of head_bytes head_with head_of
record_bytes m rest = simp append_assoc

-- A record that is written is read.
pub front_back : (m : Model) → Valid m → Places m → (rest : List ℕ) → parse_front (record_of m ++ rest) ≡ accepted (tidy m, rest)
unfolding parse_front head_of tidy
front_back m v p rest =
    let f = (valid_fits m).0 v in
    let t = (valid_fits (tidy m)).0 (same_valid (tidy_model m v p) v) in
    let b = map_bits m in
    rw (
      record_bytes m rest,
      head_back m f p (rules_of m.a ++ (rules_of m.b ++ rest)),
      rules_back m.a f.a p.a (rules_of m.b ++ rest) b.bit6,
      rules_back m.b f.b p.b rest b.bit7,
      (crossed (tidy m) t.a.count t.b.count).1 ((t.a.free, t.a.below), (t.b.free, t.b.below)),
    )

-- What reading a record at the front tells.
pub record FrontRead (bs : List ℕ) (m : Model) (rest : List ℕ) : Type 0 where
  pub bytes : get_or bs 0 0 < 256 → bs ≡ record_of m ++ rest
  pub valid : Valid m
  pub places : Places m
  pub unused_a : Unused m.a
  pub unused_b : Unused m.b
  pub announced : announces (target_byte bs) ≡ not (eqb (second_map (second_of m)) 0)

-- The map of the model that was read is the map that was read.
same_map : (h : Head) (ra rb : List Rule) → h.map < 256
    → HeadBits h.map (eqb h.g 4) (eqb h.k 2) (eqb h.start 0) (eqb h.a 0) (eqb h.b 0) (eqb (length ra) 0) (eqb (length rb) 0)
    → map_of (model_of h ra rb) ≡ h.map
unfolding map_of weight_of
same_map h ra rb k b = head_sum_lem h.map k b

-- Rules with zeros behind them, up to 64.
padded_size : (rs : List Rule) → length rs ≤ 64 → length (rs ++ replicate (64 - length rs) zero_rule) ≡ 64
padded_size rs h = simp (length-append, length-replicate) (omega arith)

-- A head and rules that were read make a valid model, where nothing is at fault between them.
parts_valid : {bs m₁ m₂ rest : List ℕ} {h : Head} {ra rb : List Rule} → HeadRead bs h m₁
    → RulesRead h.g (bit 6 h.map) m₁ ra m₂ → RulesRead h.g (bit 7 h.map) m₂ rb rest
    → cross_fault (model_of h ra rb) ≡ 0 → Valid (model_of h ra rb)
parts_valid {h = h} {ra} {rb} hd a b z =
    let cross = (crossed (model_of h ra rb) a.most b.most).0 z in
    (valid_fits (model_of h ra rb)).1
    (record {
      g = hd.g;
      k = hd.k;
      start = hd.start;
      target = hd.target;
      a = thread_fits h.g h.a h.second.a ra hd.first hd.extra_a a.most a.fits cross.0;
      b = thread_fits h.g h.b h.second.b rb hd.second hd.extra_b b.most b.fits cross.1;
    })

-- Head and rules that were read make the record, where nothing is at fault between them.
front_made : {bs m₁ m₂ rest : List ℕ} {h : Head} {ra rb : List Rule} → HeadRead bs h m₁
    → RulesRead h.g (bit 6 h.map) m₁ ra m₂ → RulesRead h.g (bit 7 h.map) m₂ rb rest
    → cross_fault (model_of h ra rb) ≡ 0 → FrontRead bs (model_of h ra rb) rest
unfolding head_of head_with
front_made {bs} {m₁} {m₂} {rest} {h} {ra} {rb} hd a b z =
    record {
      bytes = λ k.
          let small : h.map < 256 = subst (λ l. get_or l 0 0 < 256) hd.bytes k in
          let map = same_map h ra rb small (hd.bits (eqb (length ra) 0) (eqb (length rb) 0) a.stands b.stands) in
          rw (record_bytes (model_of h ra rb) rest, map, rules_bytes h.b h.second.b rb rest, ← b.bytes, rules_bytes h.a h.second.a ra m₂, ← a.bytes) hd.bytes;
      valid = parts_valid hd a b z;
      places = record {
        a = padded_size ra a.most;
        b = padded_size rb b.most;
        held_a = hd.extra_a.held;
        held_b = hd.extra_b.held;
      };
      unused_a = drop-append_seam ra (replicate (64 - length ra) zero_rule);
      unused_b = drop-append_seam rb (replicate (64 - length rb) zero_rule);
      announced = hd.announced;
    }

-- A record that is read was written so.
pub front_forth : (bs : List ℕ) {m : Model} {rest : List ℕ} → parse_front bs ≡ accepted (m, rest) → FrontRead bs m rest
unfolding parse_front
front_forth bs e =
    parted (parse_head bs) _ e λ h m₁ b₁ e₁.
    parted (parse_rules (bit 6 h.map) h.g m₁) _ e₁ λ ra m₂ b₂ e₂.
    parted (parse_rules (bit 7 h.map) h.g m₂) _ e₂ λ rb m₃ b₃ e₃.
    let z = undue (cross_fault (model_of h ra rb)) e₃ in
    carried (FrontRead bs) z.1
    (front_made (head_forth bs b₁) (rules_forth (bit 6 h.map) h.g m₁ b₂) (rules_forth (bit 7 h.map) h.g m₂ b₃) z.0)

-- Nothing is left of a whole record.
whole : {m n : Model} (bs rest : List ℕ) → ended n bs ≡ accepted (m, rest) → (bs ≡ []) × (n ≡ m)
whole [] rest e = (refl, (value_same e).0)
whole (b ∷ bs) rest e = apart e

-- So it is a record at the front with nothing behind it.
pub whole_front : (bs : List ℕ) {m : Model} {rest : List ℕ} → read_of bs ≡ accepted (m, rest) → parse_front bs ≡ accepted (m, [])
unfolding read_of
whole_front bs e = parted (parse_front bs) ended e λ n mid b f. let w = whole mid _ f in rw (w.0, w.1) at b

-- Every accepted record is rewritten byte for byte.
pub read_kept : (bs : List ℕ) {m : Model} {rest : List ℕ} → read_of bs ≡ accepted (m, rest) → get_or bs 0 0 < 256 → Kept bs m
read_kept bs {m} e k =
    let r = front_forth bs (whole_front bs e) in
    record {
      valid = r.valid;
      unused_a = r.unused_a;
      unused_b = r.unused_b;
      rewritten = sym (r.bytes k ∙ append-nil (record_of m));
    }

-- A written record is read as the model with its unused places zero.
record_back : (m : Model) → Valid m → Places m → read_of (record_of m) ≡ accepted (tidy m, [])
unfolding read_of
record_back m v p =
    let e : parse_front (record_of m) ≡ accepted (tidy m, []) = rw append-nil at (front_back m v p []) in rw e

-- So every valid model survives writing and reading.
pub written_read : (m : Model) → Valid m → Places m → ReadsBack m (record_of m)
written_read m v p = record { model = tidy m; read = record_back m v p; same = tidy_model m v p }

-- A record that was read at the front is read alone as the same model.
pub read_alone : (bs : List ℕ) {m : Model} {rest : List ℕ} → parse_front bs ≡ accepted (m, rest) → get_or bs 0 0 < 256
    → read_of (record_of m) ≡ accepted (m, [])
read_alone bs {m} {rest} e k =
    let f = front_forth bs e in
    let again : ◌≡◌ {A = Read Model} (accepted (m, rest)) (accepted (tidy m, rest)) =
    sym e ∙ (ap parse_front (f.bytes k) ∙ front_back m f.valid f.places rest) in
    record_back m f.valid f.places ∙ ap (λ (n : Model). accepted (n, [])) (sym (value_same again).0)

-- A model that is the reading of bytes keeps them.
pub keeps : (bs : List ℕ) {m : Model} → get_or bs 0 0 < 256 → accepted m ≡ reading_of (read_of bs) → Kept bs m
unfolding reading_of
keeps bs {m} k = go (read_of bs) refl
  where
    go : (r : Read Model) → read_of bs ≡ r → accepted m ≡ reading_of r → Kept bs m
    go (refused n) f e = apart (sym e)
    go (accepted (n, rest)) f e = rw (accepted_same e) (read_kept bs f k)
