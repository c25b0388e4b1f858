-- What the two calls make of a tray: the reading of its first record, and the rest as a part of the caller's bytes.
use Rattle.std.specs.Prelude.{List, [], ◌≡◌, ℕ, ◌+◌, length, take, drop, Option, None, Some, Result, Ok, Err}
use Rattle.std.specs.Borrow.{Bor}
use Rattle.model.specs.declared.Model.{Model}
use Rattle.model.specs.declared.refusal.Refusal.{Refusal}
use Rattle.model.specs.Results as results
use Rattle.model.specs.Results.{accepted}
use Rattle.record.specs.declared.Front.{Front}
use Rattle.record.specs.Kept.{Kept}
use Rattle.record.specs.Reader.{read_of}
use Rattle.writer.specs.Writer.{record_of}
use Rattle.tray.specs.Tray.{Tray, none, refused, first, tray_of, rest_of}

-- What is answered: the model of an accepted record and how many bytes its record has; none, or the refusal.
abbrev pub first_reading_of : Tray → results.Result (Option Front)
first_reading_of none = results.accepted None
first_reading_of (refused n) = results.refused n
first_reading_of (first m rest) = results.accepted (Some (record { model = m; size = length (record_of m) }))

-- A record of n bytes stands at the front of a tray: by themselves they are read as the model, which keeps them, and the bytes
-- behind them are the rest.
pub record AtFront (n : ℕ) (tray : List ℕ) (m : Model) : Type 0 where
  pub read : read_of (take n tray) ≡ accepted (m, [])
  pub kept : Kept (take n tray) m
  pub rest : drop n tray ≡ rest_of (tray_of tray)

-- What an answer promises of the tray: an accepted record stands at its front, with as many bytes as it says.
abbrev pub Stands : Result (Option Front) Refusal → List ℕ → Type 0
Stands (Ok (Some f)) tray = AtFront f.size tray f.model
Stands (Ok None) tray = Unit {0}
Stands (Err r) tray = Unit {0}

-- A slice is the last part of another, in place and not a copy: it lies in the same block and ends at the same byte.
pub record LastPart (whole part : Bor (List ℕ)) : Type 0 where
  pub block : part.ref_ptr.0 ≡ whole.ref_ptr.0
  pub end : part.ref_ptr.1 + length part.now ≡ whole.ref_ptr.1 + length whole.now
