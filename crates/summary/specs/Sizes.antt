-- How much a table has of each control and symbol, for a top.
use Rattle.std.specs.Prelude.{cond, ℕ, ◌≤◌, ltb, None, Some}
use Rattle.model.specs.Tops.{Top}

-- The numbers of a table: its controls, where its destinations of staying end, and where all of them do.
pub record Sizes : Type 0 where
  pub controls : ℕ
  pub stays : ℕ
  pub dests : ℕ

-- Where the destinations of staying end in a table for a top.
abbrev pub stays_end : Top → ℕ
stays_end None = 8
stays_end (Some s) = 12

-- What a table for a top has, by its number of controls: where the destinations of staying end, and where all do.
abbrev pub shape_of : Top → ℕ → Sizes
shape_of top n = record { controls = n; stays = stays_end top; dests = cond (ltb 4 n) 16 (stays_end top) }

-- The numbers of a shape are in range.
pub record ShapeFits (sh : Sizes) : Type 0 where
  pub some : 1 ≤ sh.controls
  pub controls : sh.controls ≤ 8
  pub low : 8 ≤ sh.stays
  pub stays : sh.stays ≤ 12
  pub all : sh.stays ≤ sh.dests
  pub dests : sh.dests ≤ 16
