-- What the calls for a tray answer fits: a record has at most 670 bytes, at most 32 are judged, and a record that is taken stands at the front.
use mathlib.Core.List.{List}
use mathlib.Core.Path.{◌≡◌, sym}
use Prim.Native.Nat.{ℕ, ◌/◌, ◌<◌}
use native.Mathlib.Omega.{arith}
use lib.ListN.{length}
use Rattle.std.specs.Prelude.{Result, Ok, Err, Option, None, Some}
use Rattle.model.specs.declared.refusal.Refusal.{Refusal}
use Rattle.model.specs.Refusals.{told}
use Rattle.model.specs.Results as result
use Rattle.model.proofs.Results.{apart}
use Rattle.batch.specs.Bytes.{ListedBytes}
use Rattle.batch.proofs.Ranges.{batch_range}
use Rattle.record.specs.declared.Front.{Front}
use Rattle.tray.specs.Answer.{first_reading_of, AtFront, Stands}
use Rattle.tray.specs.Tray.{Tray, none, refused, first, tray_of}
use Rattle.writer.specs.Writer.{record_of}
use Rattle.writer.proofs.Lengths.{at_most}
use Rattle.ffi.specs.Calls.{Taken, FirstCall, BatchCall}
use Rattle.ffi.specs.Replies.{Says, first_reply, batch_reply}

-- What stands at the front, by the number of its refusal.
taken : (r : Result (Option Front) Refusal) (tray : List ℕ) → Stands r tray → Taken (told r) tray
taken (Ok None) tray s = tt
taken (Ok (Some f)) tray s = s
taken (Err r) tray s = tt

-- The length of a record that is taken fits in a field.
pub front_fits : (tray : List ℕ) {f : Front} → result.accepted (Some f) ≡ first_reading_of (tray_of tray) → AtFront f.size tray f.model
    → f.size < 65536
front_fits tray {f} e s = go (tray_of tray) e
  where
    go : (t : Tray) → result.accepted (Some f) ≡ first_reading_of t → f.size < 65536
    go none e = let z : ◌≡◌ {A = ℕ} 0 1 = cc in absurd (omega arith)
    go (refused n) e = apart (sym e)
    go (first m rest) e =
        let same : f ≡ record { model = m; size = length (record_of m) } = cc in
        let valid = rw same at s.kept.valid in
        rw same (omega (arith, at_most m valid))

-- What says the reply of the call for a first record is its answer, ..
pub first_answered : (r : Result (Option Front) Refusal) (tray : List ℕ) {n : ℕ} → told r ≡ first_reading_of (tray_of tray) → Stands r tray
    → Says n (first_reply (told r)) → FirstCall tray n
first_answered r tray e s said = rw (← e) (said, taken r tray s)

-- .. and so for a whole tray, of which at most 32 are judged.
module _ (tray list list_after store store_after : List ℕ) where
  pub batch_fits : {n : ℕ} → ListedBytes tray (Ok n) list list_after store store_after → n < 65536
  batch_fits {n} l = let low = batch_range tray (length list / 6) (Ok n) l.outcomes store store_after l.batched in omega arith

  pub batch_answered : (r : Result ℕ Refusal) {n : ℕ} → ListedBytes tray r list list_after store store_after → Says n (batch_reply r)
      → BatchCall tray n list list_after store store_after
  batch_answered r l said = record { answer = r; says = said; listed = l }
