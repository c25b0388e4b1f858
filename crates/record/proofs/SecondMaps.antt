-- Second maps and target bytes and their bits: a second map is the sum of the weights of its bits, which are the fields that are present, and
-- a target byte is its state with bit 7; by tests computed over all bits and all bytes, as in `Maps`.
use mathlib.Core.Bool.{Bool, true, false, not, ◌&&◌, cond, beq}
use mathlib.Core.List.{List}
use mathlib.Core.Path.{◌≡◌, refl, ◌∙◌}
use Prim.Native.Nat.{ℕ, ◌+◌, ◌%◌, ◌<◌}
use lib.Dec.{T, ltb, eqb}
use Rattle.model.specs.Tops.{Top}
use Rattle.std.specs.Prelude.{None, Some}
use Rattle.model.specs.Bits.{bit, all_zero}
use Rattle.model.proofs.Tests.{both, order}
use Rattle.record.specs.Reader.{announces, state_of}
use Rattle.writer.specs.Writer.{weight_of, top_weight, Second, second_map}
use Rattle.std.proofs.lemmas.Bool.{agree_below_at, eqb-true}
use Rattle.record.proofs.Maps.{always, each, same}

-- Whether a top is named.
abbrev pub named : Top → Bool
named None = false
named (Some x) = true

-- Whether some mark stands.
abbrev pub stand : List ℕ → Bool
stand held = not (all_zero held)

-- Whether a symbol count is written.
abbrev pub counted : ℕ → Bool
counted n = not (eqb n 16)

-- A second map, by which of its fields are present.
abbrev second_by : Bool → Bool → Bool → Bool → Bool → Bool → ℕ
second_by ta tb ha hb ca cb = cond ta 1 0 + cond tb 2 0 + cond ha 4 0 + cond hb 8 0 + cond ca 16 0 + cond cb 32 0

-- What a top adds, by whether it is named ..
top_adds : (w : ℕ) (t : Top) → top_weight w t ≡ cond (named t) w 0
top_adds w None = refl
top_adds w (Some x) = refl

-- .. and what any other field does, by whether it is not absent.
field_adds : (w : ℕ) (absent : Bool) → cond absent 0 w ≡ cond (not absent) w 0
field_adds w true = refl
field_adds w false = refl

-- So a second map is known by which of its fields are present.
second_by_lem : (x : Second)
    → second_map x
    ≡ second_by (named x.a.top) (named x.b.top) (stand x.a.held) (stand x.b.held) (counted x.a.symbols) (counted x.b.symbols)
unfolding second_map weight_of
second_by_lem x =
    rw (
      top_adds 1 x.a.top,
      top_adds 2 x.b.top,
      field_adds 4 (all_zero x.a.held),
      field_adds 8 (all_zero x.b.held),
      field_adds 16 (eqb x.a.symbols 16),
      field_adds 32 (eqb x.b.symbols 16),
    )

-- The bits of a second map, of which there are six: each stands exactly if its field is present.
pub record SecondBits (map : ℕ) (x : Second) : Type 0 where
  pub low : map < 64
  pub bit0 : bit 0 map ≡ named x.a.top
  pub bit1 : bit 1 map ≡ named x.b.top
  pub bit2 : bit 2 map ≡ stand x.a.held
  pub bit3 : bit 3 map ≡ stand x.b.held
  pub bit4 : bit 4 map ≡ counted x.a.symbols
  pub bit5 : bit 5 map ≡ counted x.b.symbols

second_bits : ℕ → Bool → Bool → Bool → Bool → Bool → Bool → Bool
second_bits m ta tb ha hb ca cb =
    ltb m 64 && beq (bit 0 m) ta && beq (bit 1 m) tb && beq (bit 2 m) ha && beq (bit 3 m) hb &&
    beq (bit 4 m) ca && beq (bit 5 m) cb

all_second_bits : T (always λ ta. always λ tb. always λ ha. always λ hb. always λ ca. always λ cb. second_bits (second_by ta tb ha hb ca cb) ta tb ha hb ca cb)
unfolding second_bits always
all_second_bits = tt

-- They are the bits of the second map that is written.
pub second_bits_lem : (x : Second) → SecondBits (second_map x) x
unfolding second_bits
second_bits_lem x =
    let ta = named x.a.top in
    let tb = named x.b.top in
    let ha = stand x.a.held in
    let hb = stand x.b.held in
    let ca = counted x.a.symbols in
    let cb = counted x.b.symbols in
    let t : T (second_bits (second_by ta tb ha hb ca cb) ta tb ha hb ca cb) =
    each _ (each _ (each _ (each _ (each _ (each _ all_second_bits ta) tb) ha) hb) ca) cb in
    let z = simp (both, same, order) at t in
    rw (second_by_lem x)
    (record {
      low = z.0.0.0.0.0.0;
      bit0 = z.0.0.0.0.0.1;
      bit1 = z.0.0.0.0.1;
      bit2 = z.0.0.0.1;
      bit3 = z.0.0.1;
      bit4 = z.0.1;
      bit5 = z.1;
    })

second_sum : ℕ → Bool
second_sum map = eqb (second_by (bit 0 map) (bit 1 map) (bit 2 map) (bit 3 map) (bit 4 map) (bit 5 map)) map

-- A second map is the sum of its bits.
pub second_sum_lem : {map : ℕ} {x : Second} → SecondBits map x → second_map x ≡ map
unfolding second_sum
second_sum_lem {map} {x} b =
    let sum : ℕ = second_by (bit 0 map) (bit 1 map) (bit 2 map) (bit 3 map) (bit 4 map) (bit 5 map) in
    let t = eqb-true sum map (agree_below_at second_sum (λ k. true) 64 map refl b.low) in
    second_by_lem x ∙ rw (b.bit0, b.bit1, b.bit2, b.bit3, b.bit4, b.bit5) at t

-- A second map below 16 has no bit for a count.
pub low_map_lem : (map : ℕ) → map < 16 → (bit 4 map ≡ false) × (bit 5 map ≡ false)
low_map_lem map h = (agree_below_at (bit 4) (λ k. false) 16 map refl h, agree_below_at (bit 5) (λ k. false) 16 map refl h)

-- A target byte announces a second map by its bit 7, and its low seven bits are its state.
pub target_bits_lem : (b : ℕ) → b < 256 → (announces b ≡ bit 7 b) × (state_of b ≡ b % 128)
target_bits_lem b h = (
  agree_below_at (λ k. announces k) (bit 7) 256 b refl h,
  eqb-true (state_of b) (b % 128) (agree_below_at (λ k. eqb (state_of k) (k % 128)) (λ k. true) 256 b refl h),
)
