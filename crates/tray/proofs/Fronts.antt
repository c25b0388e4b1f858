-- The record at the front decides both calls. What it takes is its model's record, by the law of records, so the number of bytes
-- taken is that record's length, and the rest lies behind them.
use mathlib.Core.List.{List, [], ◌∷◌, ◌++◌}
use mathlib.Core.Path.{◌≡◌, refl, sym, ap, ◌∙◌}
use Prim.Native.Nat.{ℕ, ◌+◌, ◌-◌, ◌≤◌, ◌<◌}
use native.Mathlib.Omega.{arith}
use lib.ListN.{length, get_or, take, drop, length-append, length-drop, drop_of_length-le}
use lib.Seq.{take-append_seam}
use Rattle.model.specs.declared.Model.{Model}
use Rattle.std.specs.Prelude.{None, Some}
use Rattle.model.specs.Results as results
use Rattle.model.specs.Results.{refused, accepted}
use Rattle.model.proofs.Results.{apart}
use Rattle.record.specs.Held.{Reads}
use Rattle.record.specs.Reader.{parse_byte, parse_head, parse_front}
use Rattle.record.proofs.Records.{front_forth, read_alone}
use Rattle.writer.specs.Writer.{record_of}
use Rattle.tray.proofs.Parts.{to_end}
use Rattle.tray.specs.Answer.{first_reading_of, AtFront}
use Rattle.tray.specs.Tray.{first, tray_by, tray_of, rest_of}

-- No record is read from no bytes, ..
empty : parse_front [] ≡ refused 1
unfolding parse_front parse_head parse_byte
empty = refl

-- .. and any others give what their first record is read as.
some : (s : List ℕ) → (length s ≡ 0 → ⊥) → tray_of s ≡ tray_by (parse_front s)
unfolding tray_of
some [] h = absurd (h refl)
some (b ∷ s) h = refl

-- A tray whose first record is accepted gives its model ..
pub first_given : (s : List ℕ) {m : Model} {rest : List ℕ} → parse_front s ≡ accepted (m, rest) → tray_of s ≡ first m rest
first_given [] e = apart (sym empty ∙ e)
first_given (b ∷ s) e = some (b ∷ s) (λ z. omega arith) ∙ ap tray_by e

-- .. and one whose first record is refused has no rest.
none_left : (s : List ℕ) {n : ℕ} → parse_front s ≡ refused n → rest_of (tray_of s) ≡ []
unfolding tray_of
none_left [] e = refl
none_left (b ∷ s) e = rw e

-- A record that was read at the front is that of its model ..
module _ (s : List ℕ) {m : Model} {n : ℕ} (small : get_or s 0 0 < 256) (h : n ≤ length s) (e : parse_front s ≡ accepted (m, drop n s)) where
  bytes : s ≡ record_of m ++ drop n s
  bytes = (front_forth s e).bytes small

  -- .. so it has as many bytes as that ..
  pub size : n ≡ length (record_of m)
  size =
      let whole : length s ≡ length (record_of m) + length (drop n s) = ap length bytes ∙ length-append (record_of m) (drop n s) in
      let left : length (drop n s) ≡ length s - n = length-drop n s in
      omega arith

  -- .. and the bytes taken are the record.
  pub at_front : AtFront n s m
  at_front =
      let f = front_forth s e in
      let front : take n s ≡ record_of m =
      ap (take n) bytes ∙ (ap (λ k. take k (record_of m ++ drop n s)) size ∙ take-append_seam (record_of m) (drop n s)) in
      record {
        read = rw front (read_alone s e small);
        kept = record { valid = f.valid; unused_a = f.unused_a; unused_b = f.unused_b; rewritten = sym front };
        rest = rw (first_given s e);
      }

-- Without a byte there is no record ..
pub none_told : (s : List ℕ) → length s ≡ 0 → results.accepted None ≡ first_reading_of (tray_of s)
unfolding tray_of
none_told [] h = refl
none_told (b ∷ s) h = absurd (omega arith)

-- .. and else one that is refused ..
pub refused_told : (s : List ℕ) {n : ℕ} → (length s ≡ 0 → ⊥) → refused n ≡ parse_front s → refused n ≡ first_reading_of (tray_of s)
refused_told s h e = rw (some s h, ← e)

-- .. or accepted, and then it stands at the front ..
module _ (s : List ℕ) {m : Model} {n : ℕ} (told : Reads s (accepted (m, n)) (parse_front s)) where
  pub accepted_told : get_or s 0 0 < 256 → results.accepted (Some (record { model = m; size = n })) ≡ first_reading_of (tray_of s)
  accepted_told small = rw (first_given s (sym told.same), size s small told.within (sym told.same))

  pub stands : get_or s 0 0 < 256 → AtFront n s m
  stands small = at_front s small told.within (sym told.same)

  -- .. and the rest lies behind it.
  pub left : take (length s - n) (drop n s) ≡ rest_of (tray_of s)
  left = rw (to_end s n told.within, first_given s (sym told.same))

-- Nothing is left after a refusal.
pub nothing_left : (s : List ℕ) {n : ℕ} → refused n ≡ parse_front s
    → take (length s - length s) (drop (length s) s) ≡ rest_of (tray_of s)
nothing_left s e = to_end s (length s) (omega arith) ∙ drop_of_length-le s {i = length s} (omega arith) ∙ sym (none_left s (sym e))
