-- The head of a record both ways: field by field, and the map is the sum of the bits of the fields that are not absent.
use mathlib.Core.Bool.{Bool, true, false, not, cond}
use mathlib.Core.List.{List, [], ◌∷◌, ◌++◌}
use mathlib.Core.Path.{◌≡◌, refl, ◌∙◌}
use Prim.Native.Nat.{ℕ, suc, ◌+◌, ◌≤◌, ◌<◌, zero-le}
use native.Mathlib.Nat.{add-zero}
use Rattle.std.proofs.lemmas.List.{get_or-append-add}
use native.Mathlib.Omega.{arith}
use lib.Dec.{T, eqb}
use lib.ListN.{length, get_or}
use Rattle.model.specs.declared.Model.{Model}
use Rattle.model.specs.Bits.{bit, one_if}
use Rattle.model.specs.Fits.{Fits}
use Rattle.model.specs.Results.{accepted}
use Rattle.model.specs.Valid.{Places}
use Rattle.model.proofs.Results.{checked}
use Rattle.model.proofs.Tests.{passed}
use Rattle.record.specs.Older.{target_place, target_byte}
use Rattle.record.specs.Reader.{parse_byte, parse_field, announces, state_of, parse_target, parse_second, Head, parse_head}
use Rattle.writer.specs.Writer.{field_of, weight_of, map_of, Second, second_of, second_map, target_bytes}
use Rattle.record.proofs.OneField.{parted, carried, byte_forth, field_back, FieldRead, field_forth}
use Rattle.record.proofs.Tops.{flagged, unflagged, target_back, target_forth, target_with}
use Rattle.record.proofs.Tops.{ExtraFits, second_back, SecondRead, second_forth}
use Rattle.record.proofs.Maps.{HeadBits, head_bits_lem}

-- The head of a model.
unfoldable pub head_of : Model → Head
head_of m =
    record {
      map = map_of m;
      g = m.g;
      k = m.k;
      start = m.start.0;
      target = m.target.0;
      second = second_of m;
      a = m.a.first.0;
      b = m.b.first.0;
    }

-- The bytes of a head, and what follows it.
unfoldable pub head_with : Head → List ℕ → List ℕ
head_with h rest =
    h.map ∷ (field_of 4 h.g ++ (field_of 2 h.k ++ (field_of 0 h.start ++
    (target_bytes h.target h.second ++ (field_of 0 h.a ++ (field_of 0 h.b ++ rest))))))

-- The bits of a model's map.
pub map_bits : (m : Model)
    → HeadBits (map_of m) (eqb m.g 4) (eqb m.k 2) (eqb m.start.0 0) (eqb m.a.first.0 0) (eqb m.b.first.0 0) (eqb m.a.count 0) (eqb m.b.count 0)
unfolding map_of weight_of
map_bits m = head_bits_lem (eqb m.g 4) (eqb m.k 2) (eqb m.start.0 0) (eqb m.a.first.0 0) (eqb m.b.first.0 0) (eqb m.a.count 0) (eqb m.b.count 0)

-- A head that is written is read.
pub head_back : (m : Model) → Fits m → Places m → (rest : List ℕ) → parse_head (head_with (head_of m) rest) ≡ accepted (head_of m, rest)
unfolding parse_head parse_byte head_with head_of
head_back m f p rest =
    let b = map_bits m in
    let g : m.g < 5 = omega (arith, f.g.1) in
    let k : m.k < 4 = omega (arith, f.k.1) in
    let first : m.a.first.0 < 16 = omega (arith, f.a.first) in
    let second : m.b.first.0 < 16 = omega (arith, f.b.first) in
    let low : m.target.0 < 128 = omega (arith, f.target, f.g.1) in
    let map = second_map (second_of m) in
    let target = flagged m.target.0 map low in
    let extra_a : ExtraFits (second_of m).a = record { top = f.a.top; held = p.held_a; symbols = f.a.symbols } in
    let extra_b : ExtraFits (second_of m).b = record { top = f.b.top; held = p.held_b; symbols = f.b.symbols } in
    rw (
      b.bit3,
      field_back 3 4 m.g _ b.bit0 f.g.0 g,
      field_back 3 2 m.k _ b.bit1 f.k.0 k,
      field_back 3 0 m.start.0 _ b.bit2 zero-le f.start,
      target_with,
      target_back map _ f.target low,
      target.0,
      second_back (second_of m) extra_a extra_b _ target.1,
      field_back 3 0 m.a.first.0 _ b.bit4 zero-le first,
      field_back 3 0 m.b.first.0 _ b.bit5 zero-le second,
    )

-- A field that was read takes a byte exactly if its bit stands.
field_size : {present : Bool} {low limit default v : ℕ} {bs rest : List ℕ} → FieldRead present low limit default v bs rest
    → length (field_of default v) ≡ one_if present
unfolding field_of
field_size {default = default} {v = v} f = rw f.stands (go (eqb v default))
  where
    go : (absent : Bool) → length (cond absent [] (v ∷ [])) ≡ one_if (not absent)
    go true = refl
    go false = refl

-- What is left after a field that was read.
past : {present : Bool} {low limit default v : ℕ} {bs rest : List ℕ} → FieldRead present low limit default v bs rest → (i : ℕ)
    → get_or bs (one_if present + i) 0 ≡ get_or rest i 0
past {default = default} {v = v} {rest = rest} f i = rw (f.bytes, ← field_size f) (get_or-append-add (field_of default v) rest i 0)

-- The target byte comes after the map, G, K and the start state, and what follows it is behind it.
pub target_place_lem : {map g k start : ℕ} {bs m₁ m₂ m₃ m₄ : List ℕ} → bs ≡ map ∷ m₁
    → FieldRead (bit 0 map) 1 5 4 g m₁ m₂ → FieldRead (bit 1 map) 1 4 2 k m₂ m₃ → FieldRead (bit 2 map) 0 g 0 start m₃ m₄
    → (i : ℕ) → get_or bs (target_place bs + i) 0 ≡ get_or m₄ i 0
unfolding target_place
target_place_lem {map} {m₁ = m₁} e g k s i =
    let last = one_if (bit 2 map) in
    let second = one_if (bit 1 map) in
    let first = one_if (bit 0 map) in
    let place : 1 + (first + (second + last)) + i ≡ suc (first + (second + (last + i))) = omega arith in
    rw (e, place) (past g (second + (last + i)) ∙ (past k (last + i) ∙ past s i))

-- So it is the first of those that are left.
pub target_first : {map g k start : ℕ} {bs m₁ m₂ m₃ m₄ : List ℕ} → bs ≡ map ∷ m₁
    → FieldRead (bit 0 map) 1 5 4 g m₁ m₂ → FieldRead (bit 1 map) 1 4 2 k m₂ m₃ → FieldRead (bit 2 map) 0 g 0 start m₃ m₄
    → target_byte bs ≡ get_or m₄ 0 0
target_first e g k s = rw add-zero at (target_place_lem e g k s 0)

-- What reading a head tells, of a map that is a byte.
pub record HeadRead (bs : List ℕ) (h : Head) (rest : List ℕ) : Type 0 where
  pub bytes : bs ≡ head_with h rest
  pub bits : (ra rb : Bool) → bit 6 h.map ≡ not ra → bit 7 h.map ≡ not rb
      → HeadBits h.map (eqb h.g 4) (eqb h.k 2) (eqb h.start 0) (eqb h.a 0) (eqb h.b 0) ra rb
  pub g : (1 ≤ h.g) × (h.g ≤ 4)
  pub k : (1 ≤ h.k) × (h.k ≤ 3)
  pub start : h.start < h.g
  pub target : h.target < h.g
  pub extra_a : ExtraFits h.second.a
  pub extra_b : ExtraFits h.second.b
  pub announced : announces (target_byte bs) ≡ not (eqb (second_map h.second) 0)
  pub first : h.a ≤ 15
  pub second : h.b ≤ 15

-- The parts of a head that were read make its bytes.
head_made : {map g k start target a b : ℕ} {second : Second} {bs m₁ m₂ m₃ m₄ m₅ m₆ m₇ rest : List ℕ}
    → bs ≡ map ∷ m₁ → T (bit 3 map)
    → FieldRead (bit 0 map) 1 5 4 g m₁ m₂ → FieldRead (bit 1 map) 1 4 2 k m₂ m₃ → FieldRead (bit 2 map) 0 g 0 start m₃ m₄
    → (m₄ ≡ target ∷ m₅) × (state_of target < g) → SecondRead (announces target) second m₅ m₆
    → FieldRead (bit 4 map) 0 16 0 a m₆ m₇ → FieldRead (bit 5 map) 0 16 0 b m₇ rest
    → HeadRead bs (record { map = map; g = g; k = k; start = start; target = state_of target; second = second; a = a; b = b }) rest
unfolding head_with
head_made {map} {target = target} e t g k s d n a b =
    record {
      bytes =
          rw (
            ← b.bytes,
            ← a.bytes,
            target_with,
            ← n.bytes,
            unflagged target _ n.stands,
            ← d.0,
            ← s.bytes,
            ← k.bytes,
            ← g.bytes,
          ) e;
      bits = λ ra rb p q. record {
        bit0 = g.stands;
        bit1 = k.stands;
        bit2 = s.stands;
        bit3 = passed (bit 3 map) t;
        bit4 = a.stands;
        bit5 = b.stands;
        bit6 = p;
        bit7 = q;
      };
      g = (g.least, omega (arith, g.most));
      k = (k.least, omega (arith, k.most));
      start = s.most;
      target = d.1;
      extra_a = n.a;
      extra_b = n.b;
      announced = rw (target_first e g k s, d.0) n.stands;
      first = omega (arith, a.most);
      second = omega (arith, b.most);
    }

-- A head that is read was written so.
pub head_forth : (bs : List ℕ) {h : Head} {rest : List ℕ} → parse_head bs ≡ accepted (h, rest) → HeadRead bs h rest
unfolding parse_head
head_forth bs e =
    parted (parse_byte bs) _ e λ map m₁ b₁ e₁.
    checked 2 (bit 3 map) e₁ λ t e₂.
    parted (parse_field (bit 0 map) 3 1 5 4 m₁) _ e₂ λ g m₂ b₂ e₃.
    let fg = field_forth (bit 0 map) 3 1 5 4 m₁ (omega arith) (omega arith) b₂ in
    parted (parse_field (bit 1 map) 3 1 4 2 m₂) _ e₃ λ k m₃ b₃ e₄.
    parted (parse_field (bit 2 map) 3 0 g 0 m₃) _ e₄ λ start m₄ b₄ e₅.
    parted (parse_target g m₄) _ e₅ λ target m₅ b₅ e₆.
    parted (parse_second (announces target) m₅) _ e₆ λ second m₆ b₆ e₇.
    parted (parse_field (bit 4 map) 3 0 16 0 m₆) _ e₇ λ a m₇ b₇ e₈.
    parted (parse_field (bit 5 map) 3 0 16 0 m₇) _ e₈ λ b m₈ b₈ e₉.
    carried (HeadRead bs) e₉
    (head_made (byte_forth bs b₁) t fg
    (field_forth (bit 1 map) 3 1 4 2 m₂ (omega arith) (omega arith) b₃)
    (field_forth (bit 2 map) 3 0 g 0 m₃ zero-le fg.least b₄)
    (target_forth g m₄ b₅)
    (second_forth (announces target) m₅ b₆)
    (field_forth (bit 4 map) 3 0 16 0 m₆ zero-le (omega arith) b₇)
    (field_forth (bit 5 map) 3 0 16 0 m₇ zero-le (omega arith) b₈))
