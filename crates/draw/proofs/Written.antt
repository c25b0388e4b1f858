-- A table written byte by byte from the front: the bytes up to one place hold their marks, and those beyond the table stay.
use mathlib.Core.List.{List}
use mathlib.Core.Logic.Iff
use mathlib.Core.Logic.{◌↔◌}
use mathlib.Core.Path.{◌≡◌, refl, ◌∙◌}
use Prim.Native.Nat.{ℕ, ◌+◌, ◌*◌, ◌/◌, ◌%◌, ◌<◌, ◌≤◌}
use native.Mathlib.Omega.{arith}
use borrow.Author.Tests.{le-leb}
use lib.Dec.{T}
use lib.ListN.{length, drop, set}
use lib.Seq.{drop-set-lt}
use Rattle.model.specs.declared.Model.{Model}
use Rattle.std.specs.Prelude.{None}
use Rattle.model.specs.Bits.{bit_at}
use Rattle.model.specs.Fits.{Fits}
use Rattle.model.specs.Lines.{Line, bits, value, position, table_bits}
use Rattle.model.specs.Runs.{Marked}
use Rattle.model.specs.Tables.{bytes_for, LineTable}
use Rattle.model.proofs.Positions.{position_below, position_injective}
use Rattle.model.proofs.Tests.{failed}
use Rattle.costs.specs.Cost.{BothCosts}
use Rattle.costs.proofs.Front.{Front, front_start, front_next}
use Rattle.draw.specs.Marks.{padded, DrawnAt, Packs}
use Rattle.draw.proofs.Bits.{spare_place}
use Rattle.draw.proofs.Marks.{marked_full}

-- Of a table of `bytes` bytes, those below `at` are written.
pub record Written (Mark : ℕ → Type 0) (bytes : ℕ) (old new : List ℕ) (at : ℕ) : Type 0 where
  pub front : Front (λ i byte. Packs Mark byte i) at old new
  pub rest : drop bytes new ≡ drop bytes old

pub written_starts : (Mark : ℕ → Type 0) (bytes : ℕ) (old : List ℕ) → Written Mark bytes old old 0
written_starts Mark bytes old = record { front = front_start _ old; rest = refl }

pub written_steps : {Mark : ℕ → Type 0} {bytes : ℕ} {old new : List ℕ} {at : ℕ} (byte : ℕ) → at < bytes → bytes ≤ length old
    → Packs Mark byte at → Written Mark bytes old new at → Written Mark bytes old (set new at byte) (at + 1)
written_steps {old = old} {new = new} {at = at} byte h l x w =
    let inside : at < length new = omega (arith, w.front.size) in
    record { front = front_next w.front inside x; rest = drop-set-lt _ new at byte h ∙ w.rest }

-- The bit of a place that is written says whether its mark stands.
bit_written : {Mark : ℕ → Type 0} {bytes : ℕ} {old new : List ℕ} → Written Mark bytes old new bytes
    → (p : ℕ) → p < 8 * bytes → T (bit_at new p) ↔ Mark p
bit_written {bytes = bytes} w p h =
    let byte : p / 8 < bytes = omega arith in
    let place : 8 * (p / 8) + p % 8 ≡ p = omega arith in
    rw place at (w.front.below (p / 8) byte (p % 8) (omega arith))

-- The place of a line is marked exactly if the line is.
drawn_marked : (m : Model) (a b : List ℕ) → 1 ≤ m.k → BothCosts m None None a b → (line : List ℕ) → Line m.g m.k line
    → DrawnAt m.g m.k a b (position m.g line) ↔ Marked m line
drawn_marked m a b k c line l = (
  λ d.
      let same = position_injective d.at.sound l d.at.place in
      let full : d.v ≡ value m.g (padded m.k line) = rw (← same) d.at.full in
      (marked_full m a b k c line l).0 (rw full at d.first, rw full at d.second),
  λ r.
      let w = (marked_full m a b k c line l).1 r in
      record {
        v = value m.g (padded m.k line);
        at = record { line = line; sound = l; place = refl; full = refl };
        first = w.0;
        second = w.1;
      },
)

-- A table that is written whole is the model's line table.
pub written_table : (m : Model) (a b : List ℕ) {bytes at : ℕ} {old new : List ℕ} → 1 ≤ m.k → BothCosts m None None a b
    → bytes ≡ bytes_for m.g m.k → at ≡ bytes_for m.g m.k
    → Written (DrawnAt m.g m.k a b) bytes old new at → LineTable m old new
written_table m a b {old = old} {new = new} k c e f d =
    let size : ℕ = bytes_for m.g m.k in
    let w : Written (DrawnAt m.g m.k a b) size old new size = rw (e, f) at d in
    record {
      size = w.front.size;
      marks = λ line l.
          let low = position_below l in
          Iff.trans (bit_written w (position m.g line) (omega arith)) (drawn_marked m a b k c line l);
      spare = λ p h l. failed (bit_at new p) (λ t. spare_place h ((bit_written w p l).0 t));
      beyond = w.rest;
    }

-- In range the table of line bits holds the bits.
pub bits_counted : {m : Model} → Fits m → table_bits m.g m.k ≡ bits m.g m.k
unfolding table_bits
bits_counted {m} f =
    rw (le-leb 1 m.g f.g.0, le-leb m.g 4 f.g.1, le-leb 1 m.k f.k.0, le-leb m.k 3 f.k.1)
