-- Where its stores have room the judge refuses no valid model: 683 bytes have a bit for each line, since no model has more than 5,460.
use mathlib.Core.Bool.{◌&&◌}
use mathlib.Core.Path.{◌≡◌, sym, ◌∙◌}
use Prim.Native.Nat.{ℕ, zero, suc, ◌*◌, ◌≤◌}
use native.Mathlib.Nat.{pow-le-pow_left}
use native.Mathlib.Omega.{arith}
use lib.Dec.{leb}
use Rattle.model.specs.declared.Model.{Model}
use Rattle.model.specs.declared.refusal.Refusal.{Refusal}
use Rattle.model.specs.Lines.{powers}
use Rattle.model.specs.Refusals.{number_of}
use Rattle.model.specs.Schedules.{most_bytes}
use Rattle.model.specs.Tables.{bytes_for, table_fits}
use Rattle.model.specs.Valid.{Valid}
use Rattle.model.proofs.Granted.{granted}
use Rattle.model.proofs.Ranges.{valid_fits}
use Rattle.model.proofs.Refusals.{number_some}
use Rattle.model.proofs.Tests.{both, order}
use Rattle.judge.specs.Answer.{refusal_of}

-- Up to six states below 4 give 5,460 lines.
powers_four : (n : ℕ) → n ≤ 6 → powers 4 n ≤ 5460
unfolding powers
powers_four zero h = omega arith
powers_four (suc zero) h = omega arith
powers_four (suc (suc zero)) h = omega arith
powers_four (suc (suc (suc zero))) h = omega arith
powers_four (suc (suc (suc (suc zero)))) h = omega arith
powers_four (suc (suc (suc (suc (suc zero))))) h = omega arith
powers_four (suc (suc (suc (suc (suc (suc zero)))))) h = omega arith
powers_four (suc (suc (suc (suc (suc (suc (suc n))))))) h = absurd (omega arith)

powers_left : (g n : ℕ) → g ≤ 4 → powers g n ≤ powers 4 n
unfolding powers
powers_left g zero h = omega arith
powers_left g (suc n) h = omega (arith, powers_left g n h, pow-le-pow_left h (suc n))

pub powers_low : (g n : ℕ) → g ≤ 4 → n ≤ 6 → powers g n ≤ 5460
powers_low g n h k = omega (arith, powers_left g n h, powers_four n k)

-- A valid model is not refused by the judge where the stores have 683 and 8,190 bytes.
pub unrefused : (m : Model) → Valid m → refusal_of m 683 most_bytes ≡ 0
unfolding refusal_of
unrefused m v =
    let f = (valid_fits m).0 v in
    let low : bytes_for m.g m.k ≤ 683 =
    let b = powers_low m.g (2 * m.k) f.g.1 (omega (arith, f.k)) in omega arith in
    (granted m (table_fits m 683 && leb most_bytes most_bytes)).1
    (v, (both (table_fits m 683) (leb most_bytes most_bytes)).1 ((order (bytes_for m.g m.k) 683).1 low, tt))

-- So it gives no refusal.
pub not_refused : (m : Model) (r : Refusal) {a b : ℕ} {P : Type 0} → Valid m → a ≡ 683 → b ≡ most_bytes → refusal_of m a b ≡ number_of r → P
not_refused m r v e f h = absurd (number_some r (sym (rw (e, f) at h) ∙ unrefused m v))
