-- A line table leaves no bit open: each place of its bytes has one line, whose mark the bit says, or is spare, and the bytes beyond are as
-- they were. So two stores that hold the line table of a model over the same old bytes are the same.
use mathlib.Core.List.{List}
use mathlib.Core.Path.{◌≡◌, ap, sym, ◌∙◌}
use Prim.Native.Nat.{ℕ, ◌+◌, ◌-◌, ◌*◌, ◌/◌, ◌%◌, ◌<◌}
use native.Mathlib.Decide.{dec_lt}
use native.Mathlib.Omega.{arith}
use lib.ListN.{get_or}
use lib.Seq.{get_or-drop, ext_get_or}
use Rattle.model.specs.declared.Model.{Model}
use Rattle.model.specs.Bits.{bit_at, Bytes}
use Rattle.model.specs.Lines.{bits, position}
use Rattle.model.specs.Tables.{bytes_for, LineTable}
use Rattle.model.proofs.Bytes.{byte_at, same_bits}
use Rattle.model.proofs.Positions.{position_onto}
use Rattle.model.proofs.Tests.{agree}

module _ (m : Model) {old new new' : List ℕ} (t : LineTable m old new) (u : LineTable m old new') where
  -- A place of the table is that of a line, or spare.
  same_bit : (p : ℕ) → p < 8 * bytes_for m.g m.k → bit_at new p ≡ bit_at new' p
  same_bit p h =
      elim (dec_lt p (bits m.g m.k)) [
        | yes l ↦
            let at = position_onto m.g m.k p l in
            let q : ℕ = position m.g at.0 in
            rw at.2 at (agree (bit_at new q) (bit_at new' q) (t.marks at.0 at.1) (u.marks at.0 at.1))
        | no l ↦ t.spare p (omega arith) h ∙ sym (u.spare p (omega arith) h)
      ]

  -- The line table of a model and what the store held determine every byte of the store.
  pub table_determined : Bytes new → Bytes new' → new ≡ new'
  table_determined small small' =
      ext_get_or 0 new new' (t.size ∙ sym u.size) λ i h.
      elim (dec_lt i (bytes_for m.g m.k)) [
        | yes l ↦
            same_bits 8 (get_or new i 0) (get_or new' i 0) (byte_at new small i) (byte_at new' small' i) λ j c.
            let byte : (8 * i + j) / 8 ≡ i = omega arith in
            let place : (8 * i + j) % 8 ≡ j = omega arith in
            rw (byte, place) at (same_bit (8 * i + j) (omega arith))
        | no l ↦
            let at : bytes_for m.g m.k + (i - bytes_for m.g m.k) ≡ i = omega arith in
            rw (get_or-drop, get_or-drop, at) at (ap (λ r. get_or r (i - bytes_for m.g m.k) 0) (t.beyond ∙ sym u.beyond))
      ]
