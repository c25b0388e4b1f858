-- The refusals in their order: those of a call that fills a line table, and then a schedule store that is too short.
use mathlib.Core.List.{[], ◌∷◌}
use mathlib.Core.Path.{◌≡◌, refl}
use Prim.Native.Nat.{ℕ, ◌≤◌}
use borrow.Author.Tests.{le-leb}
use lib.Dec.{leb}
use Rattle.model.specs.declared.Model.{Model}
use Rattle.model.specs.Results.{refuse, first_of}
use Rattle.model.specs.Schedules.{most_bytes}
use Rattle.model.specs.Tables.{table_fits}
use Rattle.model.specs.Valid.{Valid, store_refusal}
use Rattle.model.proofs.Granted.{granted, two_stores}
use Rattle.judge.specs.Answer.{refusal_of}

-- The line table's refusal comes first, and then the schedule store's.
pub checks : (m : Model) (lines schedule : ℕ)
    → refusal_of m lines schedule ≡ first_of (store_refusal m (table_fits m lines) ∷ refuse 7 (leb most_bytes schedule) ∷ [])
unfolding refusal_of
checks m lines schedule = rw (two_stores m (table_fits m lines) (leb most_bytes schedule)) refl

-- Where the line table's refusal is none the model is valid.
pub valid_model : (m : Model) (size : ℕ) → store_refusal m (table_fits m size) ≡ 0 → Valid m
valid_model m size e = ((granted m (table_fits m size)).0 e).0

-- Where it is none, and the schedule store has room, nothing is refused.
pub unrefused : (m : Model) (lines schedule : ℕ) → store_refusal m (table_fits m lines) ≡ 0 → most_bytes ≤ schedule
    → refusal_of m lines schedule ≡ 0
unfolding first_of
unrefused m lines schedule z h = rw (checks m lines schedule, z, le-leb most_bytes schedule h)
