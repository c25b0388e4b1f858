-- Map bytes and their bits: a map is the sum of the weights of its bits, shown by one test computed over all bits and one
-- over all bytes.
use mathlib.Core.Bool.{Bool, true, false, not, ◌&&◌, ◌||◌, cond, beq, not-not, true≢false, false≢true}
use mathlib.Core.Logic.{◌↔◌}
use mathlib.Core.Path.{◌≡◌, refl}
use Prim.Native.Nat.{ℕ, suc, ◌+◌, ◌<◌}
use Rattle.std.proofs.lemmas.Bool.{agree_below_at, eqb-true}
use lib.Dec.{T, ltb, eqb}
use Rattle.model.specs.declared.Right.{Right}
use Rattle.model.specs.declared.Right.TheVariants.{Remove, Swap, Push}
use Rattle.model.specs.Bits.{bit}
use Rattle.model.proofs.Tests.{both, order, equal}
use Rattle.record.specs.Reader.{rule_map}
use Rattle.writer.specs.Writer.{symbol_bits}

-- A test that passes at both truth values.
unfoldable pub always : (Bool → Bool) → Bool
always f = f true && f false

-- It passes at each.
pub each : (f : Bool → Bool) → T (always f) → (b : Bool) → T (f b)
unfolding always
each f t true = ((both (f true) (f false)).0 t).0
each f t false = ((both (f true) (f false)).0 t).1

-- Truth values that are tested to be the same are.
pub same : (a b : Bool) → T (beq a b) ↔ (a ≡ b)
same true true = (λ t. refl, λ e. tt)
same true false = (λ t. absurd t, λ e. absurd (true≢false e))
same false true = (λ t. absurd t, λ e. absurd (false≢true e))
same false false = (λ t. refl, λ e. tt)

-- A test under a condition that holds.
given : (a b : Bool) → T (not a || b) → T a → T b
given true b t h = t
given false b t h = absurd h

-- The map of a model, by which of its seven optional fields are absent.
abbrev pub head_map : Bool → Bool → Bool → Bool → Bool → Bool → Bool → ℕ
head_map g k s a b ra rb =
    cond g 0 1 + cond k 0 2 + cond s 0 4 + 8 + cond a 0 16 + cond b 0 32 + cond ra 0 64 + cond rb 0 128

-- The bits of such a map: each stands exactly if its field is not absent, and bit 3 always.
pub record HeadBits (map : ℕ) (g k s a b ra rb : Bool) : Type 0 where
  pub bit0 : bit 0 map ≡ not g
  pub bit1 : bit 1 map ≡ not k
  pub bit2 : bit 2 map ≡ not s
  pub bit3 : bit 3 map ≡ true
  pub bit4 : bit 4 map ≡ not a
  pub bit5 : bit 5 map ≡ not b
  pub bit6 : bit 6 map ≡ not ra
  pub bit7 : bit 7 map ≡ not rb

head_bits : ℕ → Bool → Bool → Bool → Bool → Bool → Bool → Bool → Bool
head_bits m g k s a b ra rb =
    beq (bit 0 m) (not g) && beq (bit 1 m) (not k) && beq (bit 2 m) (not s) && beq (bit 3 m) true &&
    beq (bit 4 m) (not a) && beq (bit 5 m) (not b) && beq (bit 6 m) (not ra) && beq (bit 7 m) (not rb)

all_head_bits : T (always λ g. always λ k. always λ s. always λ a. always λ b. always λ ra. always λ rb. head_bits (head_map g k s a b ra rb) g k s a b ra rb)
unfolding head_bits always
all_head_bits = tt

-- The bits of a model's map.
pub head_bits_lem : (g k s a b ra rb : Bool) → HeadBits (head_map g k s a b ra rb) g k s a b ra rb
unfolding head_bits
head_bits_lem g k s a b ra rb =
    let t : T (head_bits (head_map g k s a b ra rb) g k s a b ra rb) = each _ (each _ (each _ (each _ (each _ (each _ (each _ all_head_bits g) k) s) a) b) ra) rb in
    let z = simp (both, same) at t in
    record {
      bit0 = z.0.0.0.0.0.0.0;
      bit1 = z.0.0.0.0.0.0.1;
      bit2 = z.0.0.0.0.0.1;
      bit3 = z.0.0.0.0.1;
      bit4 = z.0.0.0.1;
      bit5 = z.0.0.1;
      bit6 = z.0.1;
      bit7 = z.1;
    }

-- A map byte with bit 3 is the sum of its bits.
head_sum : ℕ → Bool
head_sum map =
    not (bit 3 map) ||
    eqb
    (head_map
    (not (bit 0 map))
    (not (bit 1 map))
    (not (bit 2 map))
    (not (bit 4 map))
    (not (bit 5 map))
    (not (bit 6 map))
    (not (bit 7 map)))
    map

-- It is one at each byte.
head_summed : (map : ℕ) → map < 256 → head_sum map ≡ true
unfolding head_sum
head_summed map h = agree_below_at head_sum (λ k. true) 256 map refl h

-- A flag from its bit.
flag : (absent b : Bool) → b ≡ not absent → not b ≡ absent
flag absent b e = rw e (not-not absent)

-- A byte with such bits is the map.
pub head_sum_lem : {g k s a b ra rb : Bool} (map : ℕ) → map < 256 → HeadBits map g k s a b ra rb → head_map g k s a b ra rb ≡ map
unfolding head_sum
head_sum_lem {g} {k} {s} {a} {b} {ra} {rb} map h e =
    let u =
    rw (
      e.bit3,
      flag g (bit 0 map) e.bit0,
      flag k (bit 1 map) e.bit1,
      flag s (bit 2 map) e.bit2,
      flag a (bit 4 map) e.bit4,
      flag b (bit 5 map) e.bit5,
      flag ra (bit 6 map) e.bit6,
      flag rb (bit 7 map) e.bit7,
    ) at (head_summed map h) in
    eqb-true (head_map g k s a b ra rb) map u

-- The bits of the new symbols in a rule's map, by whether there is a first and a second.
abbrev pub new_bits : Bool → Bool → ℕ
new_bits false second = 0
new_bits true false = 2
new_bits true true = 6

rule_sum : ℕ → Bool
rule_sum map = not (rule_map map) || eqb (cond (not (bit 0 map)) 0 1 + new_bits (bit 1 map) (bit 2 map)) map

-- It is one at each number of three bits.
rule_summed : (map : ℕ) → map < 8 → rule_sum map ≡ true
unfolding rule_sum
rule_summed map h = agree_below_at rule_sum (λ k. true) 8 map refl h

-- A rule's map is the sum of its bits.
pub rule_sum_lem : (map : ℕ) → T (rule_map map) → (absent : Bool) (x : Right) → bit 0 map ≡ not absent
    → new_bits (bit 1 map) (bit 2 map) ≡ symbol_bits x → cond absent 0 1 + symbol_bits x ≡ map
unfolding rule_sum
rule_sum_lem map t absent x e f =
    let s : ℕ = cond (not (bit 0 map)) 0 1 + new_bits (bit 1 map) (bit 2 map) in
    let h = (order (suc map) 8).0 ((both (ltb map 8) (bit 1 map || not (bit 2 map))).0 t).0 in
    let u = (equal s map).0 (given (rule_map map) (eqb s map) (rw (rule_summed map h) tt) t) in
    rw (flag absent (bit 0 map) e, f) at u

-- Whether a right side has a first and a second symbol.
abbrev pub has_first : Right → Bool
has_first Remove = false
has_first (Swap a) = true
has_first (Push a b) = true

abbrev pub has_second : Right → Bool
has_second Remove = false
has_second (Swap a) = false
has_second (Push a b) = true

-- The bits of a rule's map, by whether its after state is absent and by its right side.
pub record RuleBits (map : ℕ) (absent : Bool) (x : Right) : Type 0 where
  pub fits : rule_map map ≡ true
  pub bit0 : bit 0 map ≡ not absent
  pub bit1 : bit 1 map ≡ has_first x
  pub bit2 : bit 2 map ≡ has_second x

pub rule_bits : (absent : Bool) (x : Right) → RuleBits (cond absent 0 1 + symbol_bits x) absent x
rule_bits true Remove = record { fits = refl; bit0 = refl; bit1 = refl; bit2 = refl }
rule_bits true (Swap a) = record { fits = refl; bit0 = refl; bit1 = refl; bit2 = refl }
rule_bits true (Push a b) = record { fits = refl; bit0 = refl; bit1 = refl; bit2 = refl }
rule_bits false Remove = record { fits = refl; bit0 = refl; bit1 = refl; bit2 = refl }
rule_bits false (Swap a) = record { fits = refl; bit0 = refl; bit1 = refl; bit2 = refl }
rule_bits false (Push a b) = record { fits = refl; bit0 = refl; bit1 = refl; bit2 = refl }
