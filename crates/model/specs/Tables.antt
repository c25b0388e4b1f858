-- Line tables: a bit of a store for each line of a model, at the line's place.
use Rattle.std.specs.Prelude.{Bool, false, List, ◌↔◌, ◌≡◌, ℕ, ◌+◌, ◌*◌, ◌/◌, ◌≤◌, ◌<◌, T, leb, length, drop}
use Rattle.model.specs.declared.Model.{Model}
use Rattle.model.specs.Bits.{bit_at}
use Rattle.model.specs.Lines.{Line, bits, position}
use Rattle.model.specs.Runs.{Marked}

-- How many bytes hold the bits of a model with these G and K.
abbrev pub bytes_for : ℕ → ℕ → ℕ
bytes_for g k = (bits g k + 7) / 8

-- A store of so many bytes has room for a model's line table.
abbrev pub table_fits : Model → ℕ → Bool
table_fits m size = leb (bytes_for m.g m.k) size

-- A store holds the line table of a model: for each line of one to 2K states below G, the bit at its place stands exactly if the
-- line is marked; the spare bits of the last byte are 0, and the bytes beyond it are as they were.
pub record LineTable (m : Model) (old new : List ℕ) : Type 0 where
  pub size : length new ≡ length old
  pub marks : (line : List ℕ) → Line m.g m.k line → T (bit_at new (position m.g line)) ↔ Marked m line
  pub spare : (p : ℕ) → bits m.g m.k ≤ p → p < 8 * bytes_for m.g m.k → bit_at new p ≡ false
  pub beyond : drop (bytes_for m.g m.k) new ≡ drop (bytes_for m.g m.k) old
