-- 671 bytes decide the answer to a record, and a record is refused by a number from 1 to 6, by 11, 13 or 17, at the front of any bytes not
-- by 6: every part of the reader is steady, part by part, and a record takes at most 670 bytes.
use mathlib.Core.Bool.{Bool, true, false, not}
use mathlib.Core.List.{List, [], ◌∷◌, ◌++◌}
use mathlib.Core.Path.{◌≡◌, refl}
use Prim.Native.Nat.{ℕ, zero, suc, ◌*◌, ◌/◌, ◌≤◌, zero-le}
use native.Mathlib.Decide.{dec_lt}
use native.Mathlib.Omega.{arith}
use lib.Dec.{leb, ltb, eqb}
use lib.ListN.{length, take, drop, take-append-drop, length-append, length-drop}
use lib.Seq.{take_all, length-take-le, take-append-le, drop-append-le}
use borrow.Author.Tests.{le-leb, lt-leb}
use Rattle.model.specs.declared.Model.{Model}
use Rattle.model.specs.Bits.{bit, all_zero}
use Rattle.model.specs.Order.{key_of}
use Rattle.model.specs.Results.{refused, accepted, need, unless}
use Rattle.model.proofs.Symbols.{of_cross}
use Rattle.record.specs.Reader.{Read, and_read, in_range, parse_ranged, parse_field, rule_map, parse_right, parse_rule}
use Rattle.record.specs.Reader.{announces, state_of, parse_target, parse_top, parse_marks, parse_extras, parse_second}
use Rattle.record.specs.Reader.{parse_rule_list, parse_rules, parse_head, model_of, cross_checked, parse_front, ended, read_of, Refuses}
use Rattle.record.proofs.OneField.{field_forth}
use Rattle.record.proofs.Steady.{Low, Takes, before, Steady, none, one, tested, wider, chained}

-- The numbers that the reader refuses by.
two : Low 2
two = omega arith

three : Low 3
three = omega arith

four : Low 4
four = omega arith

five : Low 5
five = omega arith

thirteen : Low 13
thirteen = omega arith

ranged : (k low limit : ℕ) → Low k → Steady 1 (parse_ranged k low limit)
unfolding parse_ranged
ranged k low limit l = chained one λ bs b rest e. tested k (in_range low limit b) l (none b)

field : (present : Bool) (k low limit default : ℕ) → Low k → Steady 1 (parse_field present k low limit default)
unfolding parse_field
field false k low limit default l = wider zero-le (none default)
field true k low limit default l = chained (ranged k low limit l) λ bs b rest e. tested 5 (not (eqb b default)) five (none b)

right : (first second : Bool) → Steady 2 (parse_right first second)
unfolding parse_right
right false second = wider zero-le (none _)
right true false = wider (omega arith) (chained (ranged 4 0 16 four) λ bs a rest e. none _)
right true true = chained (ranged 4 0 16 four) λ bs a rest e. chained (ranged 4 0 16 four) λ bs b rest f. none _

rule : (g : ℕ) → Steady 5 (parse_rule g)
unfolding parse_rule
rule g =
    chained one λ bs map rest e.
    tested 4 (rule_map map) four
    (chained one λ bs pair rest e.
    tested 4 (ltb (pair / 16) g) four
    (chained (field (bit 0 map) 4 0 g (pair / 16) four) λ bs next rest e.
    chained (right (bit 1 map) (bit 2 map)) λ bs new rest e. none _))

list : (g least n : ℕ) → Steady (n * 5) (parse_rule_list g least n)
unfolding parse_rule_list
list g least zero = none []
list g least (suc n) =
    wider (omega arith)
    (chained (rule g) λ bs r rest e.
    tested 13 (leb least (key_of r)) thirteen (chained (list g (suc (key_of r)) n) λ bs rs rest e. none _))

rules : (present : Bool) (g : ℕ) → Steady 321 (parse_rules present g)
unfolding parse_rules
rules present g =
    chained {k = 320} (field present 4 0 65 0 four) λ bs n rest e.
    let low = (field_forth present 4 0 65 0 bs zero-le (omega arith) e).most in
    wider (omega arith) (list g 0 n)

target : (g : ℕ) → Steady 1 (parse_target g)
unfolding parse_target
target g = chained one λ bs b rest e. tested 3 (ltb (state_of b) g) three (none b)

top : (present : Bool) → Steady 1 (parse_top present)
unfolding parse_top
top false = wider zero-le (none _)
top true = chained (ranged 3 0 16 three) λ bs x rest e. none _

marks : (present : Bool) → Steady 8 (parse_marks present)
unfolding parse_marks
marks false = wider zero-le (none _)
marks true = record { takes = takes; decided = decided_by }
  where
    takes : (bs : List ℕ) → Takes (length bs) 8 (parse_marks true bs)
    takes bs = elim (dec_lt (length bs) 8) [
      | yes h ↦ rw (lt-leb 8 (length bs) h) (omega arith)
      | no h ↦ rw (le-leb 8 (length bs) (omega arith)) (go (not (all_zero (take 8 bs))))
    ]
      where
        go : (test : Bool) → Takes (length bs) 8 (need 5 test (accepted (take 8 bs, drop 8 bs)))
        go true = simp length-drop (omega arith)
        go false = five

    decided_by : (bs more : List ℕ) → 8 ≤ length bs → parse_marks true (bs ++ more) ≡ before more (parse_marks true bs)
    decided_by bs more h =
        let room : 8 ≤ length (bs ++ more) = simp length-append (omega arith) in
        rw (le-leb 8 (length (bs ++ more)) room, le-leb 8 (length bs) h, take-append-le 8 bs more h, drop-append-le 8 bs more h)
        (go (not (all_zero (take 8 bs))))
      where
        go : (test : Bool) → need 5 test (accepted (take 8 bs, drop 8 bs ++ more)) ≡ before more (need 5 test (accepted (take 8 bs, drop 8 bs)))
        go true = refl
        go false = refl

extras : (map : ℕ) → Steady 20 (parse_extras map)
unfolding parse_extras
extras map =
    chained (top (bit 0 map)) λ bs ta rest e.
    chained (top (bit 1 map)) λ bs tb rest e.
    chained (marks (bit 2 map)) λ bs ha rest e.
    chained (marks (bit 3 map)) λ bs hb rest e.
    chained (field (bit 4 map) 3 1 17 16 three) λ bs ca rest e. chained (field (bit 5 map) 3 1 17 16 three) λ bs cb rest e. none _

second : (present : Bool) → Steady 21 (parse_second present)
unfolding parse_second
second present = chained (field present 3 0 64 0 three) λ bs map rest e. extras map

head : Steady 28 parse_head
unfolding parse_head
head =
    chained one λ bs map rest e.
    tested 2 (bit 3 map) two
    (chained (field (bit 0 map) 3 1 5 4 three) λ bs g rest e.
    chained (field (bit 1 map) 3 1 4 2 three) λ bs k rest e.
    chained (field (bit 2 map) 3 0 g 0 three) λ bs start rest e.
    chained (target g) λ bs q rest e.
    chained (second (announces q)) λ bs tops rest e.
    chained (field (bit 4 map) 3 0 16 0 three) λ bs a rest e.
    chained (field (bit 5 map) 3 0 16 0 three) λ bs b rest e. none _)

-- What the parts ask of each other is refused by 11 or 17, and no byte is taken.
checked : (m : Model) → Steady 0 (cross_checked m)
checked m = of_cross (λ n. Steady 0 (λ bs. unless n (accepted (m, bs)))) (none m) (stopped 11 (omega arith)) (stopped 17 (omega arith)) m
  where
    stopped : (n : ℕ) → Low n → Steady 0 (λ bs. unless n (accepted (m, bs)))
    stopped zero l = none m
    stopped (suc n) l = record { takes = λ bs. l; decided = λ bs more h. refl }

-- A record at the front takes at most 670 bytes, 28 + 2 · 321, and they decide it.
pub front : Steady 670 parse_front
unfolding parse_front
front =
    chained head λ bs h rest e.
    chained (rules (bit 6 h.map) h.g) λ bs ra rest e.
    chained (rules (bit 7 h.map) h.g) λ bs rb rest e. checked (model_of h ra rb)

-- The refusal of a record at the front ..
pub front_refusal : (bs : List ℕ) {n : ℕ} → parse_front bs ≡ refused n → Low n
front_refusal bs {n} e = rw e at (front.takes bs)

-- .. and of a whole one.
pub record_refusal : (bs : List ℕ) {n : ℕ} → read_of bs ≡ refused n → Refuses 6 n
unfolding read_of
record_refusal bs {n} = go (parse_front bs) (front.takes bs)
  where
    go : (r : Read Model) → Takes (length bs) 670 r → and_read r ended ≡ refused n → Refuses 6 n
    go (refused k) t e = let same : k ≡ n = cc in let low = rw same at t in (low.0, low.1, λ h. low.2 (omega arith), low.3, low.4)
    go (accepted (m, [])) t e = let z : ◌≡◌ {A = ℕ} 0 1 = cc in absurd (omega arith)
    go (accepted (m, b ∷ rest)) t e = let six : ◌≡◌ {A = ℕ} 6 n = cc in omega arith

-- A byte is left of 671, and more behind it changes nothing.
left_over : (more : List ℕ) (r : Read Model) → Takes 671 670 r → and_read (before more r) ended ≡ and_read r ended
left_over more (refused n) t = refl
left_over more (accepted (m, [])) t = absurd (omega arith)
left_over more (accepted (m, b ∷ rest)) t = refl

-- The first 671 bytes decide the answer.
pub decided : (bs : List ℕ) → read_of bs ≡ read_of (take 671 bs)
unfolding read_of
decided bs = elim (dec_lt 671 (length bs)) [
  | yes h ↦
      let size : length (take 671 bs) ≡ 671 = length-take-le 671 bs (omega arith) in
      let first : parse_front bs ≡ before (drop 671 bs) (parse_front (take 671 bs)) =
      rw take-append-drop at (front.decided (take 671 bs) (drop 671 bs) (omega arith)) in
      rw first (left_over (drop 671 bs) (parse_front (take 671 bs)) (rw size at (front.takes (take 671 bs))))
  | no h ↦ rw (take_all 671 bs (omega arith))
]
