-- A tray read to its end, and how many records it has.
use Rattle.std.specs.Prelude.{List, ◌≡◌, ℕ, length, Result, Ok, Err}
use Rattle.model.specs.declared.Model.{Model}
use Rattle.model.specs.declared.refusal.Refusal.{Refusal}
use Rattle.model.specs.Refusals.{number_of}
use Rattle.tray.specs.Whole.{ReadAs, RefusedBy}

-- A tray is read to its end as n models.
pub record Holds (tray : List ℕ) (n : ℕ) : Type 0 where
  pub models : List Model
  pub read : ReadAs tray models
  pub many : length models ≡ n

-- What counting the records of a tray answers.
abbrev pub Counts : List ℕ → Result ℕ Refusal → Type 0
Counts tray (Ok n) = Holds tray n
Counts tray (Err r) = RefusedBy tray (number_of r)
