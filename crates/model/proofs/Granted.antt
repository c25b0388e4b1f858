-- A call that fills stores refuses nothing exactly if the model is valid and the stores have room, and two stores are checked one
-- after the other: by cases on the checks.
use mathlib.Core.Bool.{Bool, true, false, ◌&&◌}
use mathlib.Core.List.{[], ◌∷◌}
use mathlib.Core.Logic.{◌↔◌}
use mathlib.Core.Path.{◌≡◌, refl}
use Prim.Native.Nat.{ℕ, zero, suc}
use lib.Dec.{T}
use Rattle.model.specs.declared.Model.{Model}
use Rattle.model.specs.Results.{refuse, first_of}
use Rattle.model.specs.Valid.{fault_of, store_refusal, Valid}
use Rattle.model.proofs.Checks.{both_pass}

pub granted : (m : Model) (room : Bool) → store_refusal m room ≡ 0 ↔ (Valid m × T room)
unfolding store_refusal
granted m room = both_pass (fault_of m) 6 room

in_order : (fault : ℕ) (x y : Bool)
    → first_of (first_of (fault ∷ refuse 7 x ∷ []) ∷ refuse 7 y ∷ []) ≡ first_of (fault ∷ refuse 7 (x && y) ∷ [])
unfolding first_of
in_order zero true y = refl
in_order zero false y = refl
in_order (suc fault) x y = refl

-- Where there are two stores, the one is checked and then the other.
pub two_stores : (m : Model) (x y : Bool) → first_of (store_refusal m x ∷ refuse 7 y ∷ []) ≡ store_refusal m (x && y)
unfolding store_refusal
two_stores m x y = in_order (fault_of m) x y
