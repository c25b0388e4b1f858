-- What reading keeps of a record: the model says all of it.
use Rattle.std.specs.Prelude.{List, ◌≡◌, ℕ, Result, Ok, Err}
use Rattle.model.specs.declared.Model.{Model}
use Rattle.model.specs.declared.refusal.Refusal.{Refusal}
use Rattle.model.specs.Valid.{Valid}
use Rattle.model.specs.Zero.{Unused}
use Rattle.writer.specs.Writer.{record_of}

-- A model that was read from a whole record: valid, its unused places zero, and its record is those bytes.
pub record Kept (bytes : List ℕ) (m : Model) : Type 0 where
  pub valid : Valid m
  pub unused_a : Unused m.a
  pub unused_b : Unused m.b
  pub rewritten : record_of m ≡ bytes

-- What an answer promises of the bytes: an accepted record is kept.
abbrev pub Keeps : Result Model Refusal → List ℕ → Type 0
Keeps (Ok m) bytes = Kept bytes m
Keeps (Err r) bytes = Unit {0}
