-- Where nothing is refused the model is in range, and the store has room for its table.
use mathlib.Core.Path.{◌≡◌}
use Prim.Native.Nat.{ℕ, ◌≤◌}
use lib.Dec.{leb→le}
use Rattle.model.specs.declared.Model.{Model}
use Rattle.model.specs.Fits.{Fits}
use Rattle.model.specs.Tables.{bytes_for, table_fits}
use Rattle.model.specs.Valid.{fault_of, store_refusal}
use Rattle.model.proofs.Granted.{granted}
use Rattle.model.proofs.Ranges.{valid_fits}

-- A model without a fault is in range.
pub in_range : (m : Model) → fault_of m ≡ 0 → Fits m
in_range m z = (valid_fits m).0 z

-- Where nothing is refused the model is in range ..
pub sound : (m : Model) (size : ℕ) → store_refusal m (table_fits m size) ≡ 0 → Fits m
sound m size e = in_range m ((granted m (table_fits m size)).0 e).0

-- .. and the store has room for its table.
pub roomy : (m : Model) (size : ℕ) → store_refusal m (table_fits m size) ≡ 0 → bytes_for m.g m.k ≤ size
roomy m size e = leb→le (bytes_for m.g m.k) size ((granted m (table_fits m size)).0 e).1
