-- The list ascends, so each rule is there once: its counters ascend, then the values of the copies, and at one state the rules do.
use mathlib.Core.List.{List, ◌∷◌, ◌++◌}
use mathlib.Core.Path.{◌≡◌, subst}
use Prim.Native.Nat.{ℕ, suc, ◌+◌, ◌^◌, ◌<◌}
use native.Mathlib.Omega.{arith}
use Rattle.model.specs.declared.Model.{Model}
use Rattle.model.specs.Fits.{Fits}
use Rattle.model.specs.Lines.{digits}
use Rattle.sequential.specs.Listed.{Member, rules_of, rules_with, rules, ordered_by, Ascends}
use Rattle.sequential.specs.System.{StackRule}
use Rattle.sequential.proofs.Belows.{member_below, ascends_below, ascends_split}
use Rattle.sequential.proofs.Listing.{state_at, state_at_lem}
use Rattle.sequential.proofs.Numbers.{as_many, values_ascend, counter_lower, copies_lower}
use Rattle.sequential.proofs.OneState.{by_state, low_copies, state_ascends, in_state}
use Rattle.sequential.proofs.Orders.{not_before_itself}

module _ (m : Model) (f : Fits m) (c : ℕ) (h : c < m.k + 1) where
  -- The rules at a counter ascend ..
  counter_ascends : Ascends (rules_with m (suc c))
  unfolding rules_with
  counter_ascends =
      ascends_below (λ v. rules_of m (state_at m c v)) (m.g ^ m.k)
      (λ v k. state_ascends m f (state_at m c v) (state_at_lem m c v h k)) λ v w l k r q p o.
      let x = in_state m f (state_at m c v) (state_at_lem m c v h (omega arith)) r p in
      let y = in_state m f (state_at m c w) (state_at_lem m c w h k) q o in
      let up = values_ascend m.g m.k v w (omega (arith, f.g.1)) l k in
      by_state r q
      (rw (x, y) (copies_lower (digits m.g m.k v) (digits m.g m.k w) (as_many m.g m.k v w) (suc c) up))

  -- .. and have that counter.
  in_counter : (r : StackRule) → Member r (rules_with m (suc c)) → (v : ℕ) × (v < m.g ^ m.k) × (r.state ≡ state_at m c v)
  unfolding rules_with
  in_counter r p =
      let z = (member_below (λ v. rules_of m (state_at m c v)) (m.g ^ m.k) r).0 p in
      (z.0, z.1, in_state m f (state_at m c z.0) (state_at_lem m c z.0 h z.1) r z.2)

-- The list ascends.
pub ascends : (m : Model) → Fits m → Ascends (rules m)
unfolding rules
ascends m f =
    ascends_below (λ c. rules_with m (suc c)) (m.k + 1) (counter_ascends m f) λ c d l k r q p o.
    let low : c < m.k + 1 = omega arith in
    let x = in_counter m f c low r p in
    let y = in_counter m f d k q o in
    let small = low_copies m f (state_at m c x.0) (state_at_lem m c x.0 low x.1) in
    let same = as_many m.g m.k x.0 y.0 in
    by_state r q
    (rw (x.2, y.2)
    (counter_lower (digits m.g m.k x.0) (digits m.g m.k y.0) same (suc c) (suc d) small (omega arith)))

-- So a rule that stands at a place of it stands neither before that place nor behind it.
pub once : (m : Model) → Fits m → (xs ys : List StackRule) (r : StackRule) → rules m ≡ xs ++ (r ∷ ys)
    → (Member r xs → ⊥) × (Member r ys → ⊥)
once m f xs ys r e =
    let split = ascends_split xs ys r (subst Ascends e (ascends m f)) in
    (λ p. not_before_itself (ordered_by r) (split.0 r p), λ p. not_before_itself (ordered_by r) (split.1 r p))
