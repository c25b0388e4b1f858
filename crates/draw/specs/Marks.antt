-- Which places of a line table are marked by the lists of both threads' costs, and how a byte holds eight of them.
use Rattle.std.specs.Prelude.{List, ◌++◌, ◌↔◌, ◌≡◌, ℕ, ◌+◌, ◌-◌, ◌*◌, ◌≤◌, ◌<◌, T, length, get_or, replicate}
use Rattle.model.specs.Bits.{bit}
use Rattle.model.specs.Lines.{Line, last_of, value, position}
use Rattle.summary.specs.Table.{cap}

-- A line with its last state repeated up to 2K states: a run of fewer turns is one with empty turns behind it.
abbrev pub padded : ℕ → List ℕ → List ℕ
padded k line = line ++ replicate (2 * k - length line) (last_of 0 line)

-- The full line of place p has the value v: it is the line that stands there, padded.
pub record FullAt (g k p v : ℕ) : Type 0 where
  pub line : List ℕ
  pub sound : Line g k line
  pub place : position g line ≡ p
  pub full : v ≡ value g (padded k line)

-- Place p has a line, and both threads can follow its full line.
pub record DrawnAt (g k : ℕ) (a b : List ℕ) (p : ℕ) : Type 0 where
  pub v : ℕ
  pub at : FullAt g k p v
  pub first : get_or a v 0 ≤ cap
  pub second : get_or b v 0 ≤ cap

-- A bit says whether a mark stands: 1 where it does, and else 0.
pub data BitOf (Mark : Type 0) : ℕ → Type 0 where
  set : Mark → BitOf Mark 1
  unset : (Mark → ⊥) → BitOf Mark 0

-- The bits of a byte say which of the eight marks from place 8 i on stand, lowest bit first.
abbrev pub Packs : (ℕ → Type 0) → ℕ → ℕ → Type 0
Packs Mark byte i = (j : ℕ) → j < 8 → T (bit j byte) ↔ Mark (8 * i + j)
