-- The target byte and the second map both ways: what is written of a state, of the tops, the marks and the counts is read as these, and
-- what was read was written so. The byte is its state, with 128 added where the second map is not 0, and that map is the sum of the bits
-- of its fields.
use mathlib.Core.Bool.{Bool, true, false, not, cond}
use mathlib.Core.List.{List, ◌∷◌, ◌++◌, append_assoc}
use mathlib.Core.Path.{◌≡◌, refl, sym, subst}
use Prim.Native.Nat.{ℕ, suc, ◌+◌, ◌≤◌, ◌<◌, zero-le}
use native.Mathlib.Omega.{arith}
use lib.Dec.{T, leb, ltb, eqb}
use lib.ListN.{length}
use borrow.Author.Tests.{le-leb, lt-leb, lt-ltb}
use Rattle.model.specs.Tops.{Top}
use Rattle.std.specs.Prelude.{None, Some}
use Rattle.model.specs.Bits.{bit}
use Rattle.model.specs.Fits.{TopFits}
use Rattle.model.specs.Results.{accepted}
use Rattle.model.proofs.Results.{checked}
use Rattle.model.proofs.Tests.{order}
use Rattle.record.specs.Reader.{parse_byte, parse_ranged, parse_field, announces, state_of, parse_target}
use Rattle.record.specs.Reader.{parse_top, parse_marks, parse_count, parse_extras, parse_second}
use Rattle.writer.specs.Writer.{field_of, weight_of, top_of, held_bytes, Extra, Second, second_map, second_fields, target_bytes}
use Rattle.record.proofs.SecondMaps.{named, second_bits_lem, second_sum_lem}
use Rattle.record.proofs.HeldMarks.{marks_back, marks_forth}
use Rattle.record.proofs.OneField.{parted, carried, byte_forth}
use Rattle.record.proofs.OneField.{ranged_back, ranged_forth, field_back, field_forth}

-- The byte of a state below 128 and a second map is read as both.
pub flagged : (q map : ℕ) → q < 128
    → (state_of (q + weight_of 7 0 map) ≡ q) × (announces (q + weight_of 7 0 map) ≡ not (eqb map 0))
unfolding weight_of
flagged q map h = go (eqb map 0)
  where
    go : (b : Bool) → (state_of (q + cond b 0 128) ≡ q) × (announces (q + cond b 0 128) ≡ not b)
    go true = let low : leb 128 (q + 0) ≡ false = lt-leb 128 (q + 0) (omega arith) in (rw low (omega arith), low)
    go false = let high : leb 128 (q + 128) ≡ true = le-leb 128 (q + 128) (omega arith) in (rw high (omega arith), high)

-- A byte is its state, with 128 added where it announces a second map.
pub unflagged : (b map : ℕ) → announces b ≡ not (eqb map 0) → state_of b + weight_of 7 0 map ≡ b
unfolding weight_of
unflagged b map e = go (eqb map 0) e
  where
    go : (none : Bool) → announces b ≡ not none → state_of b + cond none 0 128 ≡ b
    go true e = rw e (omega arith)
    go false e = let high = (order 128 b).0 (subst T (sym e) tt) in rw e (omega arith)

-- A target byte that is written is read.
pub target_back : {g q : ℕ} (map : ℕ) (rest : List ℕ) → q < g → q < 128
    → parse_target g ((q + weight_of 7 0 map) ∷ rest) ≡ accepted (q + weight_of 7 0 map, rest)
unfolding parse_target parse_byte
target_back map rest h k = rw ((flagged _ map k).0, lt-ltb _ _ h)

-- A target byte that is read has its state in range.
pub target_forth : (g : ℕ) (bs : List ℕ) {b : ℕ} {rest : List ℕ} → parse_target g bs ≡ accepted (b, rest)
    → (bs ≡ b ∷ rest) × (state_of b < g)
unfolding parse_target
target_forth g bs e =
    parted (parse_byte bs) _ e λ x mid r f.
    checked 3 (ltb (state_of x) g) f λ t v.
    carried (λ b rest. (bs ≡ b ∷ rest) × (state_of b < g)) v (byte_forth bs r, (order (suc (state_of x)) g).0 t)

-- A top that is written is read.
top_back : (t : Top) → TopFits t → (rest : List ℕ) → parse_top (named t) (top_of t ++ rest) ≡ accepted (t, rest)
unfolding parse_top
top_back None f rest = refl
top_back (Some x) f rest = rw (ranged_back 3 rest zero-le f)

-- What reading a top tells.
record TopRead (present : Bool) (t : Top) (bs rest : List ℕ) : Type 0 where
  bytes : bs ≡ top_of t ++ rest
  stands : present ≡ named t
  fits : TopFits t

-- A top that is read was written so.
top_forth : (present : Bool) (bs : List ℕ) {t : Top} {rest : List ℕ} → parse_top present bs ≡ accepted (t, rest)
    → TopRead present t bs rest
unfolding parse_top
top_forth false bs e = carried (λ t rest. TopRead false t bs rest) e (record { bytes = refl; stands = refl; fits = tt })
top_forth true bs e =
    parted (parse_ranged 3 0 16 bs) _ e λ x mid r f.
    let z = ranged_forth 3 0 16 bs r in
    carried (λ t rest. TopRead true t bs rest) f (record { bytes = z.0; stands = refl; fits = z.2 })

-- The fields of a second map, and what follows them.
abbrev extras_with : Second → List ℕ → List ℕ
extras_with x rest =
    top_of x.a.top ++ (top_of x.b.top ++ (held_bytes x.a.held ++ (held_bytes x.b.held ++
    (field_of 16 x.a.symbols ++ (field_of 16 x.b.symbols ++ rest)))))

-- The second map with its fields, and what follows them.
abbrev second_with : Second → List ℕ → List ℕ
second_with x rest = field_of 0 (second_map x) ++ extras_with x rest

-- The fields alone.
fields_with : (x : Second) (rest : List ℕ) → second_fields x ++ rest ≡ extras_with x rest
unfolding second_fields
fields_with x rest = simp append_assoc

-- The target with its second map, and what follows them.
pub target_with : (q : ℕ) (x : Second) (rest : List ℕ)
    → target_bytes q x ++ rest ≡ (q + weight_of 7 0 (second_map x)) ∷ second_with x rest
unfolding target_bytes
target_with q x rest = rw (append_assoc (field_of 0 (second_map x)) (second_fields x) rest, fields_with x rest)

-- What a second map says of a thread is in range: a top that is a symbol, eight bytes of marks, and a count of 1 to 16.
pub record ExtraFits (x : Extra) : Type 0 where
  pub top : TopFits x.top
  pub held : length x.held ≡ 8
  pub symbols : (1 ≤ x.symbols) × (x.symbols ≤ 16)

-- The fields that are written are read ..
extras_back : (x : Second) → ExtraFits x.a → ExtraFits x.b → (rest : List ℕ)
    → parse_extras (second_map x) (extras_with x rest) ≡ accepted (x, rest)
unfolding parse_extras
extras_back x f g rest =
    let bits = second_bits_lem x in
    let low : x.a.symbols < 17 = omega (arith, f.symbols.1) in
    let low' : x.b.symbols < 17 = omega (arith, g.symbols.1) in
    rw (
      bits.bit0,
      top_back x.a.top f.top _,
      bits.bit1,
      top_back x.b.top g.top _,
      marks_back x.a.held f.held _ bits.bit2,
      marks_back x.b.held g.held _ bits.bit3,
      field_back 3 16 x.a.symbols _ bits.bit4 f.symbols.0 low,
      field_back 3 16 x.b.symbols rest bits.bit5 g.symbols.0 low',
    )

-- .. behind their map.
pub second_back : (x : Second) → ExtraFits x.a → ExtraFits x.b → (rest : List ℕ) {present : Bool}
    → present ≡ not (eqb (second_map x) 0) → parse_second present (second_with x rest) ≡ accepted (x, rest)
unfolding parse_second
second_back x f g rest p = rw (field_back 3 0 (second_map x) _ p zero-le (second_bits_lem x).low, extras_back x f g rest)

-- What reading the fields of a second map tells.
record ExtrasRead (map : ℕ) (x : Second) (bs rest : List ℕ) : Type 0 where
  bytes : bs ≡ extras_with x rest
  sum : map < 64 → second_map x ≡ map
  a : ExtraFits x.a
  b : ExtraFits x.b

-- Fields that are read were written so ..
extras_forth : (map : ℕ) (bs : List ℕ) {x : Second} {rest : List ℕ} → parse_extras map bs ≡ accepted (x, rest)
    → ExtrasRead map x bs rest
unfolding parse_extras
extras_forth map bs e =
    parted (parse_top (bit 0 map) bs) _ e λ ta m₁ b₁ e₁.
    parted (parse_top (bit 1 map) m₁) _ e₁ λ tb m₂ b₂ e₂.
    parted (parse_marks (bit 2 map) m₂) _ e₂ λ ha m₃ b₃ e₃.
    parted (parse_marks (bit 3 map) m₃) _ e₃ λ hb m₄ b₄ e₄.
    parted (parse_count (bit 4 map) m₄) _ e₄ λ ca m₅ b₅ e₅.
    parted (parse_count (bit 5 map) m₅) _ e₅ λ cb m₆ b₆ e₆.
    let x = top_forth (bit 0 map) bs b₁ in
    let y = top_forth (bit 1 map) m₁ b₂ in
    let v = marks_forth (bit 2 map) m₂ b₃ in
    let w = marks_forth (bit 3 map) m₃ b₄ in
    let p = field_forth (bit 4 map) 3 1 17 16 m₄ (omega arith) (omega arith) b₅ in
    let q = field_forth (bit 5 map) 3 1 17 16 m₅ (omega arith) (omega arith) b₆ in
    let said : Second = record { a = record { top = ta; held = ha; symbols = ca }; b = record { top = tb; held = hb; symbols = cb } } in
    carried (λ x rest. ExtrasRead map x bs rest) e₆
    (record {
      bytes = rw (← q.bytes, ← p.bytes, ← w.bytes, ← v.bytes, ← y.bytes) x.bytes;
      sum = λ low. second_sum_lem {map = map} {x = said} (record {
        low = low;
        bit0 = x.stands;
        bit1 = y.stands;
        bit2 = v.stands;
        bit3 = w.stands;
        bit4 = p.stands;
        bit5 = q.stands;
      });
      a = record { top = x.fits; held = v.size; symbols = (p.least, omega (arith, p.most)) };
      b = record { top = y.fits; held = w.size; symbols = (q.least, omega (arith, q.most)) };
    })

-- What reading a second map tells.
pub record SecondRead (present : Bool) (x : Second) (bs rest : List ℕ) : Type 0 where
  pub bytes : bs ≡ second_with x rest
  pub stands : present ≡ not (eqb (second_map x) 0)
  pub a : ExtraFits x.a
  pub b : ExtraFits x.b

-- .. and so was a second map.
pub second_forth : (present : Bool) (bs : List ℕ) {x : Second} {rest : List ℕ} → parse_second present bs ≡ accepted (x, rest)
    → SecondRead present x bs rest
unfolding parse_second
second_forth present bs e =
    parted (parse_field present 3 0 64 0 bs) _ e λ map mid b₁ e₁.
    let f = field_forth present 3 0 64 0 bs zero-le (omega arith) b₁ in
    let r = extras_forth map mid e₁ in
    let sum = r.sum f.most in
    record { bytes = rw (sum, ← r.bytes) f.bytes; stands = rw sum f.stands; a = r.a; b = r.b }
