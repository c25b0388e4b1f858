-- Cells that hold counts go on doing so, for counts only fall; and a blank cell holds one.
use mathlib.Core.Bool.{Bool, true, false, cond, ◌&&◌}
use mathlib.Core.List.{List}
use Prim.Native.Nat.{ℕ, ◌+◌, ◌/◌, ◌%◌, ◌≤◌}
use native.Mathlib.Decide.{dec_lt}
use native.Mathlib.Nat.{le_refl, le_trans}
use native.Mathlib.Omega.{arith}
use lib.Dec.{ltb, eqb}
use Rattle.summary.specs.Cells.{Ready, free_of, first, blank, Reset, Solved}
use Rattle.summary.specs.Edges.{Edge, cell, Counts, Relaxed}
use Rattle.summary.specs.Table.{unreached}

-- After cells have fallen, and up to a lower bound.
pub within : {bound end : ℕ} {t u : List ℕ} → ((at : ℕ) → cell u at ≤ cell t at) → Counts bound t → end ≤ bound → Counts end u
within low c h = record { most = λ at l. le_trans (low at) (c.most at (omega arith)) }

-- After a relaxation.
pub held : {W : Edge → Type 0} {bound changes : ℕ} {t u : List ℕ} → Relaxed W t u changes → Counts bound t → Counts bound u
held r c = within r.low c (le_refl _)

-- A table that was ready is so after a relaxation.
pub ready_on : {W : Edge → Type 0} {n bound changes : ℕ} {t u : List ℕ} → Relaxed W t u changes → Ready n bound t → Ready n bound u
ready_on r ready = record { room = omega (arith, r.size, ready.room); counts = held r ready.counts }

-- Up to the ends of two rows.
pub rows_in : {bound end more : ℕ} {t : List ℕ} → Counts bound t → (end ≤ bound) × (more ≤ bound) → Counts end t × Counts more t
rows_in {t = t} c h = (within (λ at. le_refl (cell t at)) c h.0, within (λ at. le_refl (cell t at)) c h.1)

-- A blank cell holds one.
blank_count : (N at : ℕ) → blank N at ≤ unreached
unfolding blank
blank_count N at = either (ltb at (first (free_of N)) && eqb (at % 16) (4 + at / 272))
  where
    either : (zero : Bool) → cond zero 0 unreached ≤ unreached
    either true = omega arith
    either false = omega arith

-- What is solved, and a part made blank after it.
pub reset_counts : {W : Edge → Type 0} {N low high : ℕ} {t u : List ℕ} → Solved N W low t → Reset N low high t u → Counts high u
reset_counts {N = N} {low = low} s r =
    record {
      most = λ at h. elim (dec_lt at low) [
        | yes l ↦ rw (r.below at l) (le_trans (s.low at l) (blank_count N at))
        | no n ↦ rw (r.inside at (omega arith) h) (blank_count N at)
      ];
    }

-- The first part made blank.
pub blank_counts : {N bound : ℕ} {t u : List ℕ} → Reset N 0 bound t u → Counts bound u
blank_counts {N} r = record { most = λ at h. rw (r.inside at (omega arith) h) (blank_count N at) }
