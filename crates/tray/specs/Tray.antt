-- A tray (a stream of records, one after another with nothing between them): what it gives at its front, and what is left.
use Rattle.std.specs.Prelude.{List, [], ◌∷◌, ℕ}
use Rattle.model.specs.declared.Model.{Model}
use Rattle.model.specs.Results as result
use Rattle.record.specs.Reader.{Read, parse_front}

-- What a tray gives: none; the number that its first record is refused by; or that record's model and the bytes behind it.
pub data Tray : Type 0 where
  none : Tray
  refused : ℕ → Tray
  first : Model → List ℕ → Tray

-- The same, by what reading at the front comes to.
abbrev pub tray_by : Read Model → Tray
tray_by (result.refused n) = refused n
tray_by (result.accepted (m, rest)) = first m rest

-- An empty tray gives none, any other what its first record is read as. What follows a record is the next one, so it is no fault.
unfoldable pub tray_of : List ℕ → Tray
tray_of [] = none
tray_of (b ∷ bytes) = tray_by (parse_front (b ∷ bytes))

-- What is left of a tray: the bytes behind its first record; nothing after none or a refusal.
abbrev pub rest_of : Tray → List ℕ
rest_of none = []
rest_of (refused n) = []
rest_of (first m rest) = rest
