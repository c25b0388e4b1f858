-- A whole tray. The records of valid models, one after another, are read one by one as the same models and then none, since a record
-- is read whatever follows it; and a tray that is read to its end is those records and nothing else, since a record that is read is
-- its model's. A tray never refuses by 6, which is for a byte after a single record.
use mathlib.Core.List.{List, [], ◌∷◌, ◌++◌}
use mathlib.Core.Path.{◌≡◌, refl, ap, subst, ◌∙◌}
use Prim.Native.Nat.{ℕ}
use Rattle.model.specs.declared.Model.{Model}
use Rattle.model.specs.Bits.{Bytes}
use Rattle.model.specs.Results as result
use Rattle.model.proofs.Bytes.{byte_at, behind}
use Rattle.record.specs.Reader.{Read, parse_front, Refuses}
use Rattle.record.proofs.Decided.{front_refusal}
use Rattle.record.proofs.Records.{tidy, tidy_model, front_back, front_forth}
use Rattle.writer.specs.Writer.{record_of}
use Rattle.tray.specs.Tray.{Tray, none, refused, first, tray_by, tray_of}
use Rattle.tray.specs.Whole.{records_of, ReadAs, end, next, Writable, Holds, Filled}
use Rattle.tray.proofs.Fronts.{first_given}

-- What a tray gives says how its front is read.
abbrev Gives : List ℕ → Tray → Type 0
Gives bytes none = bytes ≡ []
Gives bytes (refused n) = parse_front bytes ≡ result.refused n
Gives bytes (first m rest) = parse_front bytes ≡ result.accepted (m, rest)

given : (bytes : List ℕ) → Gives bytes (tray_of bytes)
unfolding tray_of
given [] = refl
given (b ∷ bytes) = go (parse_front (b ∷ bytes)) refl
  where
    go : (r : Read Model) → parse_front (b ∷ bytes) ≡ r → Gives (b ∷ bytes) (tray_by r)
    go (result.refused n) e = e
    go (result.accepted (m, rest)) e = e

-- A tray is refused by a number from 1 to 5, by 11, 13 or 17.
pub tray_refusal : (bytes : List ℕ) {n : ℕ} → tray_of bytes ≡ refused n → Refuses 5 n
tray_refusal bytes e = front_refusal bytes (rw e at (given bytes))

-- The records of valid models, one after another, are read back one by one, and then none.
pub packed_read : (ms : List Model) → Writable ms → Holds ms (records_of ms)
unfolding tray_of
packed_read [] w = record { models = []; read = end refl; same = tt }
packed_read (m ∷ ms) w =
    let later = packed_read ms w.1 in
    record {
      models = tidy m ∷ later.models;
      read = next (first_given _ (front_back m w.0.0 w.0.1 (records_of ms))) later.read;
      same = (tidy_model m w.0.0 w.0.1, later.same);
    }

-- A tray that is read to its end is the records of the models that it was read as.
pub read_packed : {bytes : List ℕ} {ms : List Model} → Bytes bytes → ReadAs bytes ms → Filled bytes ms
read_packed {bytes} small (end e) = record { bytes = rw e at (given bytes); writable = tt }
read_packed {bytes} small (next {rest = rest} {m = m} e later) =
    let f = front_forth bytes (rw e at (given bytes)) in
    let split : bytes ≡ record_of m ++ rest = f.bytes (byte_at bytes small 0) in
    let others = read_packed (behind (record_of m) rest (subst Bytes split small)) later in
    record { bytes = split ∙ ap (λ l. record_of m ++ l) others.bytes; writable = ((f.valid, f.places), others.writable) }
