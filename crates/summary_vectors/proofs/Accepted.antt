-- The model of an accepted record is valid, so its thread A is in range; and the table has room for it.
use Rattle.std.proofs.Common.{◌≡◌, ℕ, ◌≤◌, List, arith}
use Rattle.std.specs.Prelude.{Result, Ok}
use Rattle.model.specs.declared.Model.{Model}
use Rattle.model.specs.declared.Thread.{Thread}
use Rattle.model.specs.declared.refusal.Refusal.{Refusal}
use Rattle.model.specs.Fits.{ThreadFits}
use Rattle.model.proofs.Ranges.{valid_fits}
use Rattle.record.specs.Kept.{Kept, Keeps}
use Rattle.summary.specs.Cells.{controls_of, size}
use Rattle.summary.proofs.Numbers.{controls_range}

pub accepted_fits : (r : Result Model Refusal) (m : Model) (bytes : List ℕ) → r ≡ Ok m → Keeps r bytes
    → (1 ≤ m.g) × (m.g ≤ 4) × ThreadFits m.g m.a
accepted_fits r m bytes e k =
    let kept : Kept bytes m = rw e at k in
    let f = (valid_fits m).0 kept.valid in
    (f.g.0, f.g.1, f.a)

-- The largest table has room for any thread.
pub roomy : (t : Thread) {g len : ℕ} → g ≤ 4 → len ≡ size 8 → size (controls_of t g) ≤ len
roomy t {g} h e = omega (arith, controls_range t g)
