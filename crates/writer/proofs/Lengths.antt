-- How long the record of a valid model is: at most 670 bytes, and one model has as many.
use mathlib.Core.Bool.{Bool, true, false, cond}
use mathlib.Core.List.{List, [], ◌∷◌}
use mathlib.Core.Path.{◌≡◌, refl}
use Prim.Native.Nat.{ℕ, zero, suc, ◌*◌, ◌/◌, ◌%◌, ◌≤◌}
use native.Mathlib.Omega.{arith}
use lib.Dec.{eqb}
use lib.ListN.{length, take, replicate, length-append, length-take}
use Rattle.model.proofs.Ranges.{valid_fits}
use Rattle.model.specs.declared.Model.{Model}
use Rattle.model.specs.declared.Right.{Right}
use Rattle.model.specs.declared.Right.TheVariants.{Remove, Swap, Push}
use Rattle.model.specs.declared.Rule.{Rule}
use Rattle.model.specs.declared.Thread.{Thread}
use Rattle.model.specs.Tops.{Top}
use Rattle.std.specs.Prelude.{None, Some}
use Rattle.model.specs.Bits.{all_zero}
use Rattle.model.specs.Order.{right_key, key_of, above}
use Rattle.model.specs.Results.{first_of}
use Rattle.model.specs.Valid.{Valid, fault_of, head_fault, range_fault, fields_fault, thread_fault, rules_fault, rule_fault}
use Rattle.model.specs.Valid.{right_fault, top_fault, symbol_fault, free_from, mark_fault, marks_fault, used_fault, symbols_fault, cross_fault}
use Rattle.writer.specs.Writer.{field_of, weight_of, symbols_of, rule_bytes, rule_list_of, rules_of, map_of, head_bytes, record_of}
use Rattle.writer.specs.Writer.{top_of, held_bytes, Second, second_of, second_map, second_fields, target_bytes}

-- A field has at most one byte.
field : (d v : ℕ) → length (field_of d v) ≤ 1
unfolding field_of
field d v = go (eqb v d)
  where
    go : (b : Bool) → length (cond b [] (v ∷ [])) ≤ 1
    go true = omega arith
    go false = omega arith

-- The new symbols are at most two.
symbols : (x : Right) → length (symbols_of x) ≤ 2
symbols Remove = omega arith
symbols (Swap a) = omega arith
symbols (Push a b) = omega arith

-- A rule has at most five.
rule : (r : Rule) → length (rule_bytes r) ≤ 5
unfolding rule_bytes
rule r = simp length-append (omega (arith, field r.before.0 r.after.0, symbols r.right))

-- The first n rules.
rules : (n : ℕ) (l : List Rule) → length (rule_list_of (take n l)) ≤ n * 5
unfolding rule_list_of
rules zero l = omega arith
rules (suc n) [] = omega arith
rules (suc n) (r ∷ l) = simp length-append (omega (arith, rule r, rules n l))

-- A thread has a count and at most 64 rules of five bytes.
thread : (t : Thread) → t.count ≤ 64 → length (rules_of t) ≤ 321
unfolding rules_of
thread t h = simp length-append (omega (arith, field 0 t.count, rules t.count t.rules))

-- A top has at most one byte.
top : (t : Top) → length (top_of t) ≤ 1
top None = omega arith
top (Some x) = omega arith

-- Marks have at most eight.
held : (l : List ℕ) → length (held_bytes l) ≤ 8
unfolding held_bytes
held l = go (all_zero l)
  where
    go : (b : Bool) → length (cond b [] (take 8 l)) ≤ 8
    go true = omega arith
    go false = simp length-take (omega arith)

-- The fields of the second map have at most 20.
second : (x : Second) → length (second_fields x) ≤ 20
unfolding second_fields
second x =
    simp length-append
    (omega
    (arith, top x.a.top, top x.b.top, held x.a.held, held x.b.held, field 16 x.a.symbols, field 16 x.b.symbols))

-- The target, the second map and its fields have at most 22.
target : (q : ℕ) (x : Second) → length (target_bytes q x) ≤ 22
unfolding target_bytes
target q x = simp length-append (omega (arith, field 0 (second_map x), second x))

-- 28 bytes come before the rules at most.
head : (m : Model) → length (head_bytes m) ≤ 28
unfolding head_bytes
head m =
    let fields = target m.target.0 (second_of m) in
    simp length-append
    (omega
    (arith, field 4 m.g, field 2 m.k, field 0 m.start.0, fields, field 0 m.a.first.0, field 0 m.b.first.0))

-- The record of a valid model has at most 670 bytes, 28 + 2 · 321.
pub at_most : (m : Model) → Valid m → length (record_of m) ≤ 670
unfolding record_of
at_most m h =
    let f = (valid_fits m).0 h in
    simp length-append (omega (arith, head m, thread m.a f.a.count, thread m.b f.b.count))

-- Rules that leave nothing to absence, so many from number n on: the new symbols of each are the digits of its number in base 15, so they
-- ascend.
long : ℕ → ℕ → List Rule
long n zero = []
long n (suc k) =
    record {
      before = record { 0 = 0 };
      symbol = record { 0 = 1 };
      after = record { 0 = 1 };
      right = Push (record { 0 = n / 15 }) (record { 0 = n % 15 });
    } ∷ long (suc n) k

-- A thread of 64 such rules, all held, and of 15 symbols.
full : Thread
full =
    record {
      symbols = 15;
      first = record { 0 = 1 };
      top = Some (record { 0 = 1 });
      held = replicate 8 255;
      count = 64;
      rules = long 0 64;
    }

-- A model that leaves nothing to absence.
pub longest : Model
longest = record { g = 3; k = 1; start = record { 0 = 1 }; target = record { 0 = 2 }; a = full; b = full }

-- It is valid, and no record is longer than its own.
pub longest_valid : Valid longest
unfolding longest full long fault_of first_of head_fault range_fault fields_fault top_fault thread_fault rules_fault above key_of right_key rule_fault right_fault symbol_fault cross_fault marks_fault mark_fault free_from symbols_fault used_fault
longest_valid = refl

pub longest_length : length (record_of longest) ≡ 670
unfolding longest full long record_of map_of weight_of field_of rules_of rule_list_of rule_bytes head_bytes target_bytes second_map second_fields held_bytes all_zero
longest_length = refl
