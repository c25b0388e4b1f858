-- What the call that fills a line table answers, and what the store then holds.
use Rattle.std.specs.Prelude.{List, ◌≡◌, ℕ, Result, Ok, Err}
use Rattle.model.specs.declared.Model.{Model}
use Rattle.model.specs.declared.refusal.Refusal.{Refusal}
use Rattle.model.specs.Tables.{table_fits, LineTable}
use Rattle.model.specs.Valid.{store_refusal}

-- The refusal that is due, by the length of the store: the model's fault (3, 4, 13, 11 or 17), then 7 for a store with too few bits; 0 for
-- done.
abbrev pub outcome_of : Model → ℕ → ℕ
outcome_of m size = store_refusal m (table_fits m size)

-- What the store holds after the call: its line table, or what it held.
abbrev pub Leaves : Model → Result (Unit {0}) Refusal → List ℕ → List ℕ → Type 0
Leaves m (Ok x) old new = LineTable m old new
Leaves m (Err r) old new = new ≡ old
