-- The answer of the call: what is made by two models without a refusal is made of both, and valid models are refused by 14, 15 or 16.
use mathlib.Core.Bool.{Bool, true, false, not}
use mathlib.Core.List.{[], ◌∷◌}
use mathlib.Core.Path.{◌≡◌, refl, sym}
use Prim.Native.Nat.{ℕ, zero, suc, ◌≤◌}
use native.Mathlib.Omega.{arith}
use Rattle.model.specs.declared.Model.{Model}
use Rattle.model.specs.declared.refusal.Refusal.{Refusal}
use Rattle.model.specs.Refusals.{number_of}
use Rattle.model.specs.Results.{Result, refused, accepted, unless, refuse, first_of}
use Rattle.model.specs.Valid.{Valid}
use Rattle.model.proofs.Checks.{stops, passes, closes}
use Rattle.model.proofs.Ranges.{checks}
use Rattle.model.proofs.Refusals.{number_some}
use Rattle.model.proofs.Results.{apart, due}
use Rattle.merge.specs.Answer.{same_head, room_for, parts_fault, clash_fault, size_fault, merge_fault, made_one, merging_of, Makes}
use Rattle.merge.specs.Union.{union_of, clash}
use Rattle.merge.proofs.Made.{made}

module _ (m n : Model) where
  -- Where no fault of the parts is found, both are valid.
  pub parts_valid : 0 ≡ parts_fault m n → Valid m × Valid n
  unfolding parts_fault first_of
  parts_valid h = let z = simp checks at (sym h) in (z.0, z.1.0)

  -- What the call answers is right.
  makes : Makes m n (merging_of m n)
  unfolding merging_of
  makes = go (merge_fault m n) refl
    where
      go : (k : ℕ) → merge_fault m n ≡ k → Makes m n (unless k (accepted (made_one m n)))
      go zero e = made m n e
      go (suc k) e = tt

  pub told_makes : (r : Result Model) → r ≡ merging_of m n → Makes m n r
  told_makes r e = rw e makes

  -- A fault of the parts is the answer ..
  module _ (r : Refusal) where
    pub parts_refused : number_of r ≡ parts_fault m n → refused (number_of r) ≡ merging_of m n
    unfolding merging_of merge_fault
    parts_refused e = rw (← stops _ e (number_some r)) (due _ (number_some r))

    -- .. then a clash ..
    pub clash_refused : 0 ≡ parts_fault m n → number_of r ≡ clash_fault m n → refused (number_of r) ≡ merging_of m n
    unfolding merging_of merge_fault
    clash_refused p e =
        let first = passes (clash_fault m n ∷ size_fault m n ∷ []) p refl (stops (size_fault m n ∷ []) e (number_some r)) in
        rw (← first) (due _ (number_some r))

  -- .. and then the size decides.
  pub size_decides : 0 ≡ parts_fault m n → 0 ≡ clash_fault m n → unless (size_fault m n) (accepted (made_one m n)) ≡ merging_of m n
  unfolding merging_of merge_fault
  size_decides p e =
      let first = passes (clash_fault m n ∷ size_fault m n ∷ []) p refl (passes (size_fault m n ∷ []) e refl (closes (sym refl))) in
      rw (← first) refl

-- The refusals of two valid models, by their tests.
abbrev ordered : Bool → Bool → Bool → Bool → Bool → ℕ
ordered a b c d e =
    first_of
    (first_of (refuse 14 a ∷ []) ∷ first_of (refuse 15 b ∷ refuse 15 c ∷ []) ∷ first_of (refuse 16 d ∷ refuse 16 e ∷ []) ∷ [])

-- Refusals in a row of which the first that is due is the answer.
in_row : (a b c d e : Bool) {k : ℕ} → ordered a b c d e ≡ suc k → (14 ≤ suc k) × (suc k ≤ 16)
unfolding first_of
in_row false b c d e h = (omega arith, omega arith)
in_row true false c d e h = (omega arith, omega arith)
in_row true true false d e h = (omega arith, omega arith)
in_row true true true false e h = (omega arith, omega arith)
in_row true true true true false h = (omega arith, omega arith)
in_row true true true true true h = absurd (omega arith)

-- Valid models are refused by 14, 15 or 16.
pub merge_refusal : (m n : Model) → Valid m → Valid n → {k : ℕ} → merging_of m n ≡ refused k → (14 ≤ k) × (k ≤ 16)
unfolding merging_of merge_fault parts_fault clash_fault size_fault first_of
merge_refusal m n v w {k} e = go (merge_fault m n) refl e
  where
    go : (f : ℕ) → merge_fault m n ≡ f → unless f (accepted (made_one m n)) ≡ refused k → (14 ≤ k) × (k ≤ 16)
    go zero h r = apart (sym r)
    go (suc f) h r =
        let same : suc f ≡ k = cc in
        let calm = not (clash (union_of m.a n.a)) in
        let calm' = not (clash (union_of m.b n.b)) in
        rw (← same) (in_row (same_head m n) calm calm' (room_for m.a n.a) (room_for m.b n.b) (rw (v, w) at h))
