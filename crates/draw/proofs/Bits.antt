-- The bit of a place: a place has one line, so one full line, whose two costs decide the bit; past the last line there is none.
use mathlib.Core.List.{List}
use mathlib.Core.Path.{◌≡◌, sym, ◌∙◌}
use Prim.Native.Nat.{ℕ, ◌≤◌}
use native.Mathlib.Omega.{arith}
use lib.ListN.{get_or}
use Rattle.model.specs.Lines.{bits}
use Rattle.model.proofs.Positions.{position_below, position_injective}
use Rattle.summary.specs.Table.{cap}
use Rattle.draw.specs.Marks.{FullAt, DrawnAt, BitOf, set, unset}

-- A place has one full line.
one_full : {g k p v w : ℕ} → FullAt g k p v → FullAt g k p w → v ≡ w
one_full d e =
    let same = position_injective d.sound e.sound (d.place ∙ sym e.place) in rw (d.full, e.full, same)

module _ {g k p : ℕ} {a b : List ℕ} where
  -- A place past the last line is not marked.
  pub spare_place : bits g k ≤ p → DrawnAt g k a b p → ⊥
  spare_place h d = omega (arith, position_below d.at.sound, d.at.place)

  -- The bit by the tests in turn: there are `count` lines, and v is the value of the full line.
  pub bit_spare : {count : ℕ} → count ≡ bits g k → count ≤ p → BitOf (DrawnAt g k a b p) 0
  bit_spare e h = unset (spare_place (omega arith))

  pub bit_clear : {v : ℕ} → FullAt g k p v → ((get_or a v 0 ≤ cap) × (get_or b v 0 ≤ cap) → ⊥) → BitOf (DrawnAt g k a b p) 0
  bit_clear f h = unset (λ d. let same = one_full f d.at in h (rw same (d.first, d.second)))

  pub bit_set : {v : ℕ} → FullAt g k p v → get_or a v 0 ≤ cap → get_or b v 0 ≤ cap → BitOf (DrawnAt g k a b p) 1
  bit_set {v} f x y = set (record { v = v; at = f; first = x; second = y })
