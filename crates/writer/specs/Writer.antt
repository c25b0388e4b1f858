-- The model record as it is written: the map, then each field that does not say what its absence would.
use Rattle.std.specs.Prelude.{cond, List, [], ◌∷◌, ◌++◌, ℕ, ◌+◌, ◌*◌, ◌^◌, eqb, take}
use Rattle.model.specs.declared.Model.{Model}
use Rattle.model.specs.declared.Right.{Right}
use Rattle.model.specs.declared.Right.TheVariants.{Remove, Swap, Push}
use Rattle.model.specs.declared.Rule.{Rule}
use Rattle.model.specs.declared.Thread.{Thread}
use Rattle.model.specs.Tops.{Top}
use Rattle.std.specs.Prelude.{None, Some}
use Rattle.model.specs.Bits.{all_zero}

-- A field's byte, unless it is the default.
unfoldable pub field_of : ℕ → ℕ → List ℕ
field_of default v = cond (eqb v default) [] (v ∷ [])

-- What a field's bit i adds to the map: nothing where the field is absent.
unfoldable pub weight_of : ℕ → ℕ → ℕ → ℕ
weight_of i default v = cond (eqb v default) 0 (2 ^ i)

-- The new symbols of a rule, and their bits.
abbrev pub symbols_of : Right → List ℕ
symbols_of Remove = []
symbols_of (Swap a) = a.0 ∷ []
symbols_of (Push a b) = a.0 ∷ b.0 ∷ []

-- The bits of the new symbols in a rule's map.
abbrev pub symbol_bits : Right → ℕ
symbol_bits Remove = 0
symbol_bits (Swap a) = 2
symbol_bits (Push a b) = 6

-- A rule: map, before state and symbol in one byte, the after state unless it is the before state, the new symbols.
unfoldable pub rule_bytes : Rule → List ℕ
rule_bytes r =
    (weight_of 0 r.before.0 r.after.0 + symbol_bits r.right) ∷ (r.before.0 * 16 + r.symbol.0) ∷
    field_of r.before.0 r.after.0 ++ symbols_of r.right

-- Rules one after another.
unfoldable pub rule_list_of : List Rule → List ℕ
rule_list_of [] = []
rule_list_of (r ∷ rs) = rule_bytes r ++ rule_list_of rs

-- The rules of a thread: their count and then each, or nothing where there is none.
unfoldable pub rules_of : Thread → List ℕ
rules_of t = field_of 0 t.count ++ rule_list_of (take t.count t.rules)

-- The map of a model: bit 3 always stands.
unfoldable pub map_of : Model → ℕ
map_of m =
    weight_of 0 4 m.g + weight_of 1 2 m.k + weight_of 2 0 m.start.0 + 8 + weight_of 4 0 m.a.first.0 +
    weight_of 5 0 m.b.first.0 + weight_of 6 0 m.a.count + weight_of 7 0 m.b.count

-- The symbol of a top that is named.
abbrev pub top_of : Top → List ℕ
top_of None = []
top_of (Some x) = x.0 ∷ []

-- What a top adds to the second map: the weight of its bit, where it is named.
abbrev pub top_weight : ℕ → Top → ℕ
top_weight w None = 0
top_weight w (Some x) = w

-- The eight bytes of a thread's marks, unless no mark stands.
unfoldable pub held_bytes : List ℕ → List ℕ
held_bytes held = cond (all_zero held) [] (take 8 held)

-- What marks add to the second map: the weight of their bit, unless none stands.
abbrev pub held_weight : ℕ → List ℕ → ℕ
held_weight w held = cond (all_zero held) 0 w

-- What a second map says of a thread: the top that is asked for, the marks of its held rules, and its symbol count.
pub record Extra : Type 0 where
  pub top : Top
  pub held : List ℕ
  pub symbols : ℕ

-- What it says of A and of B.
pub record Second : Type 0 where
  pub a : Extra
  pub b : Extra

-- What a second map says of a thread of a model ..
abbrev pub extra_in : Thread → Extra
extra_in t = record { top = t.top; held = t.held; symbols = t.symbols }

-- .. and of both.
abbrev pub second_of : Model → Second
second_of m = record { a = extra_in m.a; b = extra_in m.b }

-- The second map: bit 0 and bit 1 for the tops of A and of B, bit 2 and bit 3 for their marks, bit 4 and bit 5 for their symbol counts, of
-- which 16 is the default.
unfoldable pub second_map : Second → ℕ
second_map x =
    top_weight 1 x.a.top + top_weight 2 x.b.top + held_weight 4 x.a.held + held_weight 8 x.b.held +
    weight_of 4 16 x.a.symbols + weight_of 5 16 x.b.symbols

-- The fields of the second map, in bit order.
unfoldable pub second_fields : Second → List ℕ
second_fields x =
    top_of x.a.top ++ top_of x.b.top ++ held_bytes x.a.held ++ held_bytes x.b.held ++
    field_of 16 x.a.symbols ++ field_of 16 x.b.symbols

-- The target byte, its bit 7 announcing a second map; then that map and its fields, unless the map is 0.
unfoldable pub target_bytes : ℕ → Second → List ℕ
target_bytes target x = (target + weight_of 7 0 (second_map x)) ∷ field_of 0 (second_map x) ++ second_fields x

-- The map and the head fields.
unfoldable pub head_bytes : Model → List ℕ
head_bytes m =
    map_of m ∷ field_of 4 m.g ++ field_of 2 m.k ++ field_of 0 m.start.0 ++
    target_bytes m.target.0 (second_of m) ++ field_of 0 m.a.first.0 ++ field_of 0 m.b.first.0

-- The record of a model.
unfoldable pub record_of : Model → List ℕ
record_of m = head_bytes m ++ rules_of m.a ++ rules_of m.b
