-- Records without symbol counts mean what they meant. Both readers go the same way up to the second map. Below 16 that has no bit for a
-- count, so both go on alike; and each thread has 16 symbols, which every symbol that was read is below.
use mathlib.Core.Bool.{Bool, true, false, true≢false}
use mathlib.Core.List.{List, [], ◌∷◌}
use mathlib.Core.Logic.{inl, inr}
use mathlib.Core.Path.{◌≡◌, refl, sym, ◌∙◌}
use Prim.Native.Nat.{ℕ, zero, suc, ◌-◌, ◌≤◌, ◌<◌, zero-le}
use native.Mathlib.Omega.{arith}
use lib.ListN.{length, get_or, replicate}
use borrow.Author.Tests.{le-leb, lt-leb, lt-ltb}
use Rattle.model.specs.declared.Model.{Model}
use Rattle.model.specs.declared.Rule.{Rule}
use Rattle.model.specs.Bits.{bit}
use Rattle.model.specs.Fits.{TopFits}
use Rattle.model.specs.Results.{refused, accepted, need, first_of}
use Rattle.model.specs.Rules.{zero_rule}
use Rattle.model.specs.Valid.{marks_fault, symbols_fault, cross_fault}
use Rattle.model.proofs.Ranges.{symbols}
use Rattle.model.proofs.Results.{checked}
use Rattle.record.specs.Older.{uncounted_extras, uncounted_second, uncounted_front, target_byte, Uncounted}
use Rattle.record.specs.Reader.{Read, and_read, parse_byte, parse_ranged, parse_field, parse_rules}
use Rattle.record.specs.Reader.{announces, parse_target, parse_top, parse_marks, parse_extras, parse_second, Head, head_rest_by, head_by, parse_head, thread_from, model_of, parse_front}
use Rattle.writer.specs.Writer.{Extra, Second}
use Rattle.record.proofs.Heads.{target_place_lem, target_first, HeadRead, head_forth}
use Rattle.record.proofs.SecondMaps.{low_map_lem}
use Rattle.record.proofs.OneField.{parted, carried, byte_forth, field_forth}
use Rattle.record.proofs.RuleLists.{RulesFit}
use Rattle.record.proofs.ThreadRules.{RulesRead, rules_forth, fit_at}
use Rattle.record.proofs.Tops.{target_forth}

-- Readings that go on alike from one part.
alike : {A B : Type 0} (r : Read A) {f g : A → List ℕ → Read B}
    → ((a : A) (rest : List ℕ) → r ≡ accepted (a, rest) → f a rest ≡ g a rest) → and_read r f ≡ and_read r g
alike (refused n) k = refl
alike (accepted (a, rest)) k = k a rest refl

-- Readings past one test.
past_test : {A : Type 0} (n : ℕ) (test : Bool) {x y : Read A} → x ≡ y → need n test x ≡ need n test y
past_test n true e = e
past_test n false e = refl

-- A byte below 16 is read alike as a second map, with and without counts.
map_alike : (bs : List ℕ) → get_or bs 0 0 < 16 → parse_field true 3 0 64 0 bs ≡ parse_field true 3 0 16 0 bs
unfolding parse_field parse_ranged parse_byte
map_alike [] h = refl
map_alike (b ∷ bs) h = let low : b < 64 = omega arith in rw (le-leb 0 b zero-le, lt-ltb b 64 low, lt-ltb b 16 h)

-- Fields of a map below 16.
extras_alike : (map : ℕ) (bs : List ℕ) → map < 16 → parse_extras map bs ≡ uncounted_extras map bs
unfolding parse_extras uncounted_extras parse_field
extras_alike map bs h = rw ((low_map_lem map h).0, (low_map_lem map h).1)

-- So is a whole second map, which is below 16 where it is announced.
second_alike : (present : Bool) (bs : List ℕ) → (present ≡ true → get_or bs 0 0 < 16) → parse_second present bs ≡ uncounted_second present bs
unfolding parse_second uncounted_second parse_field
second_alike false bs h = extras_alike 0 bs (omega arith)
second_alike true bs h =
    rw (map_alike bs (h refl))
    (alike (parse_field true 3 0 16 0 bs) λ map rest e.
    extras_alike map rest (field_forth true 3 0 16 0 bs zero-le (omega arith) e).most)

-- And so is a head.
head_alike : (bs : List ℕ) → Uncounted bs → parse_head bs ≡ head_by (head_rest_by uncounted_second) bs
unfolding parse_head
head_alike bs u =
    alike (parse_byte bs) λ map m₁ e₁.
    past_test 2 (bit 3 map)
    (alike (parse_field (bit 0 map) 3 1 5 4 m₁) λ g m₂ e₂.
    alike (parse_field (bit 1 map) 3 1 4 2 m₂) λ k m₃ e₃.
    alike (parse_field (bit 2 map) 3 0 g 0 m₃) λ start m₄ e₄.
    alike (parse_target g m₄) λ target m₅ e₅.
    let fg = field_forth (bit 0 map) 3 1 5 4 m₁ (omega arith) (omega arith) e₂ in
    let fk = field_forth (bit 1 map) 3 1 4 2 m₂ (omega arith) (omega arith) e₃ in
    let fs = field_forth (bit 2 map) 3 0 g 0 m₃ zero-le fg.least e₄ in
    let left = (target_forth g m₄ e₅).0 in
    let low : announces target ≡ true → get_or m₅ 0 0 < 16 = λ a. elim u [
      | inl h ↦
          let first : target_byte bs ≡ target = rw left at (target_first (byte_forth bs e₁) fg fk fs) in
          absurd (true≢false (sym a ∙ lt-leb 128 target (omega arith)))
      | inr h ↦ rw left at (rw (target_place_lem (byte_forth bs e₁) fg fk fs 1) at h)
    ] in
    rw (second_alike (announces target) m₅ low))

-- The threads of a head that was read without counts have 16 symbols.
abbrev Sixteen : Second → Type 0
Sixteen x = (x.a.symbols ≡ 16) × (x.b.symbols ≡ 16)

second_sixteen : (present : Bool) (bs : List ℕ) {x : Second} {rest : List ℕ} → uncounted_second present bs ≡ accepted (x, rest) → Sixteen x
unfolding uncounted_second uncounted_extras
second_sixteen present bs e =
    parted (parse_field present 3 0 16 0 bs) _ e λ map m₁ b₁ e₁.
    parted (parse_top (bit 0 map) m₁) _ e₁ λ ta m₂ b₂ e₂.
    parted (parse_top (bit 1 map) m₂) _ e₂ λ tb m₃ b₃ e₃.
    parted (parse_marks (bit 2 map) m₃) _ e₃ λ ha m₄ b₄ e₄.
    parted (parse_marks (bit 3 map) m₄) _ e₄ λ hb m₅ b₅ e₅. carried (λ x rest. Sixteen x) e₅ (refl, refl)

head_sixteen : (bs : List ℕ) {h : Head} {rest : List ℕ} → head_by (head_rest_by uncounted_second) bs ≡ accepted (h, rest) → Sixteen h.second
head_sixteen bs e =
    parted (parse_byte bs) _ e λ map m₁ b₁ e₁.
    checked 2 (bit 3 map) e₁ λ t e₂.
    parted (parse_field (bit 0 map) 3 1 5 4 m₁) _ e₂ λ g m₂ b₂ e₃.
    parted (parse_field (bit 1 map) 3 1 4 2 m₂) _ e₃ λ k m₃ b₃ e₄.
    parted (parse_field (bit 2 map) 3 0 g 0 m₃) _ e₄ λ start m₄ b₄ e₅.
    parted (parse_target g m₄) _ e₅ λ target m₅ b₅ e₆.
    parted (uncounted_second (announces target) m₅) _ e₆ λ second m₆ b₆ e₇.
    parted (parse_field (bit 4 map) 3 0 16 0 m₆) _ e₇ λ a m₇ b₇ e₈.
    parted (parse_field (bit 5 map) 3 0 16 0 m₇) _ e₈ λ b m₈ b₈ e₉.
    carried (λ h rest. Sixteen h.second) e₉ (second_sixteen (announces target) m₅ b₆)

-- Of 16 symbols each that was read is one.
all_known : (g : ℕ) {first : ℕ} (x : Extra) (rs : List Rule) → x.symbols ≡ 16 → first ≤ 15 → TopFits x.top → RulesFit g 0 rs
    → symbols_fault (thread_from first x rs) ≡ 0
all_known g {first} x rs e h t f =
    let each = fit_at g 0 rs (replicate (64 - length rs) zero_rule) f in
    (symbols (thread_from first x rs)).1
    (record {
      first = rw e (omega arith);
      top = rw e t;
      before = λ r k. rw e (omega (arith, (each r k).top));
      new = λ r k. rw e (each r k).symbols;
    })

-- Checks that find nothing do not decide.
none_more : (n : ℕ) → first_of (n ∷ 0 ∷ 0 ∷ []) ≡ n
unfolding first_of
none_more zero = refl
none_more (suc n) = refl

-- So where no symbol is at fault, the marks alone do.
marks_decide : (m : Model) → symbols_fault m.a ≡ 0 → symbols_fault m.b ≡ 0 → cross_fault m ≡ marks_fault m
unfolding cross_fault
marks_decide m p q = rw (p, q) (none_more (marks_fault m))

-- Nothing more is asked of a head of 16 symbols and of rules that were read.
pub as_marks : {bs m₁ m₂ rest : List ℕ} {h : Head} {ra rb : List Rule} → HeadRead bs h m₁ → Sixteen h.second
    → RulesRead h.g (bit 6 h.map) m₁ ra m₂ → RulesRead h.g (bit 7 h.map) m₂ rb rest
    → cross_fault (model_of h ra rb) ≡ marks_fault (model_of h ra rb)
as_marks {h = h} {ra} {rb} hd s a b =
    marks_decide (model_of h ra rb) (all_known h.g h.second.a ra s.0 hd.first hd.extra_a.top a.fits)
    (all_known h.g h.second.b rb s.1 hd.second hd.extra_b.top b.fits)

-- A record in which no count is written is read as it was.
pub uncounted : (bs : List ℕ) → Uncounted bs → parse_front bs ≡ uncounted_front bs
unfolding parse_front uncounted_front
uncounted bs u =
    rw (← head_alike bs u)
    (alike (parse_head bs) λ h m₁ e₁.
    alike (parse_rules (bit 6 h.map) h.g m₁) λ ra m₂ e₂.
    alike (parse_rules (bit 7 h.map) h.g m₂) λ rb m₃ e₃.
    rw (as_marks (head_forth bs e₁) (head_sixteen bs (sym (head_alike bs u) ∙ e₁)) (rules_forth (bit 6 h.map) h.g m₁ e₂)
    (rules_forth (bit 7 h.map) h.g m₂ e₃)))
