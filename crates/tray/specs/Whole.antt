-- A tray from its front to its end: the records of some models one after another, and what reading one by one gives.
use Rattle.std.specs.Prelude.{List, [], ◌∷◌, ◌++◌, ◌≡◌, ℕ}
use Rattle.model.specs.declared.Model.{Model}
use Rattle.model.specs.Valid.{Valid, Same, Places}
use Rattle.writer.specs.Writer.{record_of}
use Rattle.tray.specs.Tray.{none, refused, first, tray_of}

-- The records of some models, one after another.
abbrev pub records_of : List Model → List ℕ
records_of [] = []
records_of (m ∷ ms) = record_of m ++ records_of ms

-- A tray is read to its end as these models, one by one and then none.
pub data ReadAs : List ℕ → List Model → Type 0 where
  -- nothing is left
  end : {bytes : List ℕ} → tray_of bytes ≡ none → ReadAs bytes []
  -- the first model, and the others from the rest
  next : {bytes rest : List ℕ} {m : Model} {ms : List Model} → tray_of bytes ≡ first m rest → ReadAs rest ms → ReadAs bytes (m ∷ ms)

-- The first record of a tray that is refused, behind any number that are accepted, is refused by n.
pub data RefusedBy : List ℕ → ℕ → Type 0 where
  -- it stands at the front
  here : {bytes : List ℕ} {n : ℕ} → tray_of bytes ≡ refused n → RefusedBy bytes n
  -- it stands in the rest
  behind : {bytes rest : List ℕ} {m : Model} {n : ℕ} → tray_of bytes ≡ first m rest → RefusedBy rest n → RefusedBy bytes n

-- Models that can be written: each is valid, and has its 64 rule places and eight bytes of marks a thread.
abbrev pub Writable : List Model → Type 0
Writable [] = Unit {0}
Writable (m ∷ ms) = (Valid m × Places m) × Writable ms

-- Two lists have the same models, one by one.
abbrev pub AllSame : List Model → List Model → Type 0
AllSame [] [] = Unit {0}
AllSame [] (n ∷ ns) = ⊥
AllSame (m ∷ ms) [] = ⊥
AllSame (m ∷ ms) (n ∷ ns) = Same m n × AllSame ms ns

-- Bytes hold models: read to their end, they give the same models.
pub record Holds (ms : List Model) (bytes : List ℕ) : Type 0 where
  pub models : List Model
  pub read : ReadAs bytes models
  pub same : AllSame ms models

-- A tray is filled by models: its bytes are their records and nothing else, and each of them can be written.
pub record Filled (tray : List ℕ) (ms : List Model) : Type 0 where
  pub bytes : tray ≡ records_of ms
  pub writable : Writable ms
