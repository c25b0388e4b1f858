-- Older records mean what they meant, or are refused by 13. The older reader and this one go the same way up to the target byte. Below 128
-- that is a state without a second map, and both go on alike, since a thread without marks has none that its list lacks and every symbol is
-- one of 16, until a rule is not above the one before it; from 128 on the older reader refuses it by 3. So what the older reader took for a
-- valid model is still read as that model. An accepted record names a top, holds a rule or counts symbols exactly if its second map is
-- announced.
use mathlib.Core.Bool.{Bool, true, false, not, true≢false}
use mathlib.Core.List.{List, [], ◌∷◌}
use mathlib.Core.Logic.{◌↔◌, ◌⊎◌, inl, inr}
use mathlib.Core.Path.{◌≡◌, refl, sym, ap, ◌∙◌}
use Prim.Native.Nat.{ℕ, zero, suc, ◌-◌, ◌≤◌, ◌<◌, zero-le}
use native.Mathlib.Decide.{dec_lt}
use native.Mathlib.Nat.{add-zero}
use native.Mathlib.Omega.{arith}
use lib.Dec.{leb, eqb}
use lib.ListN.{length, get_or, replicate}
use lib.Seq.{take-append_seam}
use borrow.Author.Tests.{le-leb, lt-leb, le-ltb, lt-ltb}
use Rattle.model.specs.declared.Model.{Model}
use Rattle.model.specs.declared.Rule.{Rule}
use Rattle.model.specs.Tops.{Top}
use Rattle.std.specs.Prelude.{None, Some}
use Rattle.model.specs.Bits.{bit, all_zero}
use Rattle.model.specs.Fits.{ThreadFits}
use Rattle.model.specs.Order.{key_of}
use Rattle.model.specs.Results.{refused, accepted, need}
use Rattle.model.specs.Rules.{zero_rule}
use Rattle.model.specs.Valid.{Valid, cross_fault}
use Rattle.model.proofs.Ranges.{crossed, valid_fits}
use Rattle.model.proofs.Results.{apart, checked}
use Rattle.model.proofs.Tests.{equal}
use Rattle.model.specs.Zero.{no_marks}
use Rattle.record.specs.Older.{no_extra, no_second, older_head_rest, older_rule_list, older_rules, older_front, target_byte, NoSecond}
use Rattle.record.specs.Reader.{Read, and_read, parse_byte, parse_ranged, parse_field, parse_rule, parse_rule_list, parse_rules}
use Rattle.record.specs.Reader.{Head, parse_firsts, head_by, parse_head, thread_from}
use Rattle.record.specs.Reader.{announces, state_of, parse_target, parse_top, parse_marks, parse_extras, parse_second}
use Rattle.record.specs.Reader.{model_of, model_by, cross_checked, parse_front, read_of}
use Rattle.writer.specs.Writer.{field_of, weight_of, held_bytes, Extra, Second, second_of, second_map, second_fields, target_bytes}
use Rattle.record.proofs.Heads.{target_first, HeadRead, head_forth}
use Rattle.record.proofs.HeldMarks.{no_marks_lem, unheld}
use Rattle.record.proofs.SecondMaps.{named, second_bits_lem}
use Rattle.record.proofs.OneField.{parted, carried, byte_forth, field_forth}
use Rattle.record.proofs.Records.{front_forth, whole_front}
use Rattle.record.proofs.RuleLists.{RulesFit}
use Rattle.record.proofs.ThreadRules.{RulesRead, rules_forth, thread_list}
use Rattle.record.proofs.Uncounted.{as_marks}

-- How two readings of a head may compare where a byte may be high: the same, and then refused if it is; or the byte is high, and the older
-- reading refused by 3.
data Alike {A : Type 0} (High : Type 0) (older newer : Read A) : Type 0 where
  same : older ≡ newer → (High → (n : ℕ) × (newer ≡ refused n)) → Alike High older newer
  apart_by_3 : High → older ≡ refused 3 → Alike High older newer

-- Readings that go on from one part.
after : {A B High : Type 0} (r : Read A) {f g : A → List ℕ → Read B}
    → ((a : A) (rest : List ℕ) → r ≡ accepted (a, rest) → Alike High (f a rest) (g a rest)) → Alike High (and_read r f) (and_read r g)
after (refused n) k = same refl (λ h. (n, refl))
after (accepted (a, rest)) k = k a rest refl

-- Readings past one test.
tested : {A High : Type 0} (n : ℕ) (test : Bool) {older newer : Read A} → Alike High older newer
    → Alike High (need n test older) (need n test newer)
tested n true x = x
tested n false x = same refl (λ h. (n, refl))

-- The target: a state that is a whole byte, or with the second map that the byte announces.
target_alike : (g : ℕ) → g ≤ 4 → (bs : List ℕ) (next : ℕ → Second → List ℕ → Read Head)
    → Alike (128 ≤ get_or bs 0 0) (and_read (parse_ranged 3 0 g bs) (λ q rest. next q no_second rest))
    (and_read (parse_target g bs) (λ b rest. and_read (parse_second (announces b) rest) (λ x rest. next (state_of b) x rest)))
unfolding parse_ranged parse_target parse_byte parse_second parse_extras parse_field parse_top parse_marks
target_alike g h [] next = same refl (λ k. (1, refl))
target_alike g h (b ∷ rest) next = elim (dec_lt b 128) [
  | yes k ↦
      let low : announces b ≡ false = lt-leb 128 b k in
      let least = le-leb 0 b zero-le in
      same (elim (dec_lt b g) [ yes j ↦ rw (least, low, lt-ltb b g j, low) | no j ↦ rw (least, low, le-ltb b g (omega arith)) ])
      (λ z. absurd (omega arith))
  | no k ↦ apart_by_3 (omega arith) (rw (le-leb 0 b zero-le, le-ltb b g (omega arith)))
]

-- The two readings of a head.
head_alike : (bs : List ℕ) → Alike (128 ≤ target_byte bs) (head_by older_head_rest bs) (parse_head bs)
unfolding parse_head
head_alike bs =
    after (parse_byte bs) λ map m₁ e₁.
    tested 2 (bit 3 map)
    (after (parse_field (bit 0 map) 3 1 5 4 m₁) λ g m₂ e₂.
    after (parse_field (bit 1 map) 3 1 4 2 m₂) λ k m₃ e₃.
    after (parse_field (bit 2 map) 3 0 g 0 m₃) λ start m₄ e₄.
    let fg = field_forth (bit 0 map) 3 1 5 4 m₁ (omega arith) (omega arith) e₂ in
    let fk = field_forth (bit 1 map) 3 1 4 2 m₂ (omega arith) (omega arith) e₃ in
    let fs = field_forth (bit 2 map) 3 0 g 0 m₃ zero-le fg.least e₄ in
    rw (target_first (byte_forth bs e₁) fg fk fs)
    (target_alike g (omega (arith, fg.most)) m₄ (parse_firsts map g k start)))

-- The older reader takes no second map for read.
older_second : (bs : List ℕ) {h : Head} {rest : List ℕ} → head_by older_head_rest bs ≡ accepted (h, rest) → h.second ≡ no_second
older_second bs e =
    parted (parse_byte bs) _ e λ map m₁ b₁ e₁.
    checked 2 (bit 3 map) e₁ λ t e₂.
    parted (parse_field (bit 0 map) 3 1 5 4 m₁) _ e₂ λ g m₂ b₂ e₃.
    parted (parse_field (bit 1 map) 3 1 4 2 m₂) _ e₃ λ k m₃ b₃ e₄.
    parted (parse_field (bit 2 map) 3 0 g 0 m₃) _ e₄ λ start m₄ b₄ e₅.
    parted (parse_ranged 3 0 g m₄) _ e₅ λ target m₅ b₅ e₆.
    parted (parse_field (bit 4 map) 3 0 16 0 m₅) _ e₆ λ a m₆ b₆ e₇.
    parted (parse_field (bit 5 map) 3 0 16 0 m₆) _ e₇ λ b m₇ b₇ e₈. carried (λ h rest. h.second ≡ no_second) e₈ refl

-- So no mark stands that its list lacks, and nothing else is asked.
unlisted : {bs m₁ m₂ rest : List ℕ} {h : Head} {ra rb : List Rule} → HeadRead bs h m₁ → h.second ≡ no_second
    → RulesRead h.g (bit 6 h.map) m₁ ra m₂ → RulesRead h.g (bit 7 h.map) m₂ rb rest → cross_fault (model_of h ra rb) ≡ 0
unfolding all_zero
unlisted {h = h} {ra} {rb} hd e a b = as_marks hd (rw e (refl, refl)) a b ∙ unheld (model_of h ra rb) (rw e) (rw e)

-- Read as before, or refused for the order of rules.
abbrev OrUnordered : {A : Type 0} → Read A → Read A → Type 0
OrUnordered older newer = (newer ≡ older) ⊎ (newer ≡ refused 13)

-- One part, and then another.
goes_on : {A B : Type 0} (older : Read A) {newer : Read A} {f g : A → List ℕ → Read B} → OrUnordered older newer
    → ((a : A) (rest : List ℕ) → newer ≡ accepted (a, rest) → OrUnordered (f a rest) (g a rest))
    → OrUnordered (and_read older f) (and_read newer g)
goes_on older (inr e) k = inr (rw e)
goes_on (refused n) (inl e) k = inl (rw e)
goes_on (accepted (a, rest)) {g = g} (inl e) k = rw e (k a rest e)

-- A test that only the newer reader makes.
above_or : {A : Type 0} (test : Bool) {older newer : Read A} → OrUnordered older newer → OrUnordered older (need 13 test newer)
above_or true x = x
above_or false x = inr refl

-- A list of rules, ..
list_or : (g least n : ℕ) (bs : List ℕ) → OrUnordered (older_rule_list g n bs) (parse_rule_list g least n bs)
unfolding older_rule_list parse_rule_list
list_or g least zero bs = inl refl
list_or g least (suc n) bs =
    goes_on (parse_rule g bs) (inl refl) λ r rest e.
    above_or (leb least (key_of r))
    (goes_on (older_rule_list g n rest) (list_or g (suc (key_of r)) n rest) λ rs rest e. inl refl)

-- .. with its count, ..
rules_or : (present : Bool) (g : ℕ) (bs : List ℕ) → OrUnordered (older_rules present g bs) (parse_rules present g bs)
unfolding older_rules parse_rules
rules_or present g bs = goes_on (parse_field present 4 0 65 0 bs) (inl refl) (λ n rest e. list_or g 0 n rest)

-- .. and what comes after the head.
model_or : (bs : List ℕ) (h : Head) (rest : List ℕ) → HeadRead bs h rest → h.second ≡ no_second
    → OrUnordered (model_by older_rules (λ m rest. accepted (m, rest)) h rest) (model_by parse_rules cross_checked h rest)
model_or bs h rest hd s =
    goes_on (older_rules (bit 6 h.map) h.g rest) (rules_or (bit 6 h.map) h.g rest) λ ra m₁ e₁.
    goes_on (older_rules (bit 7 h.map) h.g m₁) (rules_or (bit 7 h.map) h.g m₁) λ rb m₂ e₂.
    inl (rw (unlisted hd s (rules_forth (bit 6 h.map) h.g rest e₁) (rules_forth (bit 7 h.map) h.g m₁ e₂)))

-- A record whose target byte is below 128, so has bit 7 clear, is read as it was, or refused for the order of its rules.
pub as_before : (bs : List ℕ) → target_byte bs < 128 → (parse_front bs ≡ older_front bs) ⊎ (parse_front bs ≡ refused 13)
unfolding older_front parse_front
as_before bs h = elim (head_alike bs) [
  | same e k ↦
      goes_on (head_by older_head_rest bs) (inl (sym e)) λ h rest b. model_or bs h rest (head_forth bs b) (older_second bs (e ∙ b))
  | apart_by_3 k e ↦ absurd (omega arith)
]

-- Rules that ascend are read as they were: as a list, ..
list_kept : (g least n : ℕ) (bs : List ℕ) {rs : List Rule} {rest : List ℕ} → older_rule_list g n bs ≡ accepted (rs, rest)
    → RulesFit g least rs → parse_rule_list g least n bs ≡ accepted (rs, rest)
unfolding older_rule_list parse_rule_list
list_kept g least zero bs e = λ f. e
list_kept g least (suc n) bs e =
    parted (parse_rule g bs) _ e λ r m₁ b₁ e₁.
    parted (older_rule_list g n m₁) _ e₁ λ rs m₂ b₂ e₂.
    carried (λ rs rest. RulesFit g least rs → parse_rule_list g least (suc n) bs ≡ accepted (rs, rest)) e₂
    (λ f. rw (b₁, le-leb _ _ f.1, list_kept g (suc (key_of r)) n m₁ b₂ f.2))

-- .. with its count, where the thread that they make is in range.
rules_kept : (present : Bool) (g : ℕ) (bs : List ℕ) (first : ℕ) (x : Extra) {rs : List Rule} {rest : List ℕ}
    → older_rules present g bs ≡ accepted (rs, rest) → ThreadFits g (thread_from first x rs) → parse_rules present g bs ≡ accepted (rs, rest)
unfolding older_rules parse_rules
rules_kept present g bs first x {rs} e f =
    let up = rw (take-append_seam rs (replicate (64 - length rs) zero_rule)) at (thread_list g (thread_from first x rs) f) in
    parted (parse_field present 4 0 65 0 bs) _ e λ n mid b r. rw b (list_kept g 0 n mid r up)

-- So a record that the older reader takes for a valid model is read as that model, with the same rest.
pub still_read : (bs : List ℕ) {m : Model} {rest : List ℕ} → older_front bs ≡ accepted (m, rest) → Valid m
    → parse_front bs ≡ accepted (m, rest)
unfolding older_front parse_front
still_read bs e =
    parted (head_by older_head_rest bs) _ e λ h m₁ b₁ e₁.
    parted (older_rules (bit 6 h.map) h.g m₁) _ e₁ λ ra m₂ b₂ e₂.
    parted (older_rules (bit 7 h.map) h.g m₂) _ e₂ λ rb m₃ b₃ e₃.
    carried (λ m rest. Valid m → parse_front bs ≡ accepted (m, rest)) e₃ λ v.
    let f = (valid_fits (model_of h ra rb)).0 v in
    let head : parse_head bs ≡ accepted (h, m₁) = elim (head_alike bs) [ same s k ↦ sym s ∙ b₁ | apart_by_3 k s ↦ apart (sym s ∙ b₁) ] in
    let rules-a = rules_kept (bit 6 h.map) h.g m₁ h.a h.second.a b₂ f.a in
    let rules-b = rules_kept (bit 7 h.map) h.g m₂ h.b h.second.b b₃ f.b in
    let cross = (crossed (model_of h ra rb) f.a.count f.b.count).1 ((f.a.free, f.a.below), (f.b.free, f.b.below)) in
    rw (head, rules-a, rules-b, cross)

-- An accepted record with bit 7 is refused by 3 by the older reader.
pub newer_refused : (bs : List ℕ) {m : Model} {rest : List ℕ} → parse_front bs ≡ accepted (m, rest) → 128 ≤ target_byte bs
    → older_front bs ≡ refused 3
unfolding older_front parse_front
newer_refused bs r h = elim (head_alike bs) [
  | same e k ↦ parted (parse_head bs) _ r λ hd mid b f. apart (sym (k h).1 ∙ b)
  | apart_by_3 k e ↦ rw e
]

-- A top that is not named is any ..
any : (t : Top) → false ≡ named t → t ≡ None
any None e = refl
any (Some x) e = absurd (true≢false (sym e))

-- .. and a flag whose negation is false is true.
flag : (f : Bool) → false ≡ not f → f ≡ true
flag true e = refl
flag false e = absurd (true≢false (sym e))

-- What says nothing of a thread is what no second map says of it.
nothing : {t : Top} {held : List ℕ} {symbols : ℕ} → t ≡ None → held ≡ no_marks → symbols ≡ 16
    → record { top = t; held = held; symbols = symbols } ≡ no_extra
nothing p q r = rw (p, q, r)

sixteen : (n : ℕ) → eqb n 16 ≡ true → n ≡ 16
sixteen n e = (equal n 16).0 (rw e tt)

both_same : {x y : Extra} → x ≡ no_extra → y ≡ no_extra → record { a = x; b = y } ≡ no_second
both_same p q = rw (p, q)

-- The second map is 0 exactly if no top is named, no mark stands and no count is below 16.
none_said : (x : Second) → length x.a.held ≡ 8 → length x.b.held ≡ 8 → (eqb (second_map x) 0 ≡ true) ↔ (x ≡ no_second)
unfolding second_map weight_of all_zero
none_said x h k = (
  λ e.
      let bits = second_bits_lem x in
      let zero : second_map x ≡ 0 = (equal (second_map x) 0).0 (rw e tt) in
      let a =
      nothing (any x.a.top (rw zero at bits.bit0)) (no_marks_lem x.a.held h (flag (all_zero x.a.held) (rw zero at bits.bit2)))
      (sixteen x.a.symbols (flag (eqb x.a.symbols 16) (rw zero at bits.bit4))) in
      let b =
      nothing (any x.b.top (rw zero at bits.bit1)) (no_marks_lem x.b.held k (flag (all_zero x.b.held) (rw zero at bits.bit3)))
      (sixteen x.b.symbols (flag (eqb x.b.symbols 16) (rw zero at bits.bit5))) in
      both_same a b,
  λ e. rw e,
)

-- An accepted record names no top, holds no rule and counts no symbols exactly if its target byte is below 128.
pub names_none : (bs : List ℕ) {m : Model} {rest : List ℕ} → parse_front bs ≡ accepted (m, rest)
    → (target_byte bs < 128) ↔ NoSecond m
names_none bs {m} e =
    let f = front_forth bs e in
    let none = none_said (second_of m) f.places.held_a f.places.held_b in (
      λ h. none.0 (flag _ (sym (lt-leb 128 (target_byte bs) h) ∙ f.announced)),
      λ n. elim (dec_lt (target_byte bs) 128) [
        | yes h ↦ h
        | no h ↦ absurd (true≢false (sym (le-leb 128 (target_byte bs) (omega arith)) ∙ (f.announced ∙ ap not (none.1 n))))
      ],
    )

-- The same of a whole record.
pub record_names_none : (bs : List ℕ) {m : Model} {rest : List ℕ} → read_of bs ≡ accepted (m, rest)
    → (target_byte bs < 128) ↔ NoSecond m
record_names_none bs e = names_none bs (whole_front bs e)

-- A target without a second map is its state alone ..
alone : (q : ℕ) (x : Second) → x ≡ no_second → target_bytes q x ≡ q ∷ []
unfolding target_bytes second_map second_fields held_bytes all_zero weight_of field_of
alone q x e = rw (e, add-zero)

-- .. so a model without tops, held rules and counts is written as it was.
pub no_second_lem : (m : Model) → NoSecond m → target_bytes m.target.0 (second_of m) ≡ m.target.0 ∷ []
no_second_lem m n = alone m.target.0 (second_of m) n
