-- What the call that writes a record answers, what the store then holds, and that it is read back.
use Rattle.std.specs.Prelude.{List, [], ◌≡◌, ℕ, leb, length, take, Ok, Err}
use Rattle.std.specs.Prelude as std
use Rattle.model.specs.declared.Model.{Model}
use Rattle.model.specs.declared.refusal.Refusal.{Refusal}
use Rattle.model.specs.Results.{Result, accepted, unless, store_by}
use Rattle.model.specs.Valid.{store_refusal, Same}
use Rattle.record.specs.Reader.{read_of}
use Rattle.writer.specs.Writer.{record_of}

-- The answer, by the length of the store: the model's fault, 7 for a store shorter than the record, else the record's length.
unfoldable pub written_of : Model → ℕ → Result ℕ
written_of m size = unless (store_refusal m (leb (length (record_of m)) size)) (accepted (length (record_of m)))

-- What the store holds after the call: what it held where a refusal is due, else the record at its front.
unfoldable pub store_of : Model → List ℕ → List ℕ
store_of m store = store_by (store_refusal m (leb (length (record_of m)) (length store))) (record_of m) store

-- Bytes hold a model: they are read whole, as a model that is the same.
pub record ReadsBack (m : Model) (bytes : List ℕ) : Type 0 where
  pub model : Model
  pub read : read_of bytes ≡ accepted (model, [])
  pub same : Same m model

-- Every valid model survives writing and reading: where a record was written, so many bytes of the store hold the model.
abbrev pub Survives : Model → std.Result ℕ Refusal → List ℕ → Type 0
Survives m (Ok n) store = ReadsBack m (take n store)
Survives m (Err r) store = Unit {0}
