-- The first return of a run to the stack below its top symbol, and the floor: a symbol that no move takes may lie under a
-- stack without changing what it can do, so an empty stack is a stack with the floor on top. The floor is never a named top.
use mathlib.Core.List.{List, [], ◌∷◌, ◌++◌}
use mathlib.Core.Logic.{◌⊎◌, inl, inr, ◌↔◌}
use mathlib.Core.Path.{◌≡◌, refl, subst, sym, ap, ◌∙◌}
use Prim.Native.Nat.{ℕ}
use lib.Dec.{T}
use Rattle.model.specs.declared.Right.{Right}
use Rattle.model.specs.declared.Right.TheVariants.{Remove, Swap, Push}
use Rattle.model.specs.Tops.{Top}
use Rattle.std.specs.Prelude.{None, Some}
use Rattle.model.specs.Rules.{put}
use Rattle.model.specs.Walk.{has_top}
use Rattle.summary.specs.Stretch.{pop, stay, OnTop, Path, Stretch}
use Rattle.summary.proofs.Overs.{on_top_lem, Over, within, gone, overs, runs, pops, stays}

-- A right side comes on top of whatever lies below.
put_on : (x : Right) (w v : List ℕ) → put x w ++ v ≡ put x (w ++ v)
put_on Remove w v = refl
put_on (Swap a) w v = refl
put_on (Push a b) w v = refl

-- A top above the floor is one without it ..
top_over : (top : Top) (φ : ℕ) (w : List ℕ) → T (has_top top w) → T (has_top top (w ++ φ ∷ []))
top_over None φ w h = tt
top_over (Some s) φ [] h = absurd h
top_over (Some s) φ (γ ∷ w) h = h

-- .. and the other way, where the floor is no top that only it would do.
top_under : (top : Top) (φ : ℕ) → (OnTop top φ → T (has_top top [])) → (w : List ℕ) → T (has_top top (w ++ φ ∷ []))
    → T (has_top top w)
top_under top φ low [] h = low h
top_under top φ low (γ ∷ w) h = on_top_lem top γ (w ++ φ ∷ []) w h

module _ {C S : Type 0} (Move : C → ℕ → S → Right → C → Type 0) (Switch : C → C → Type 0) (top : Top) where
  -- A run over a symbol stops while something stands in its place, or returns to the stack below it and goes on there.
  pub first_return : {c d : C} {γ : ℕ} {w : List ℕ} {ss : List S}
      → Path Move Switch top c (γ ∷ w) ss d
      ↔ (Stretch Move Switch c γ (stay top d) ss [] ⊎ ((q : C) × (mid : List S) × Stretch Move Switch c γ (pop q) ss mid × Path Move Switch top q w mid d))
  first_return {c} {d} {γ} {w} {ss} = (λ p. to (overs Move Switch top p), from)
    where
      to : Over Move Switch top c (γ ∷ w) ss d
          → Stretch Move Switch c γ (stay top d) ss [] ⊎ ((q : C) × (mid : List S) × Stretch Move Switch c γ (pop q) ss mid × Path Move Switch top q w mid d)
      to (within r) = inl r
      to (gone {q = q} {mid = mid} r o) = inr (q, mid, r, runs Move Switch top o)

      from : Stretch Move Switch c γ (stay top d) ss [] ⊎ ((q : C) × (mid : List S) × Stretch Move Switch c γ (pop q) ss mid × Path Move Switch top q w mid d)
          → Path Move Switch top c (γ ∷ w) ss d
      from (inl r) = stays Move Switch top r
      from (inr r) = pops Move Switch top r.2 r.3

  module _ (φ : ℕ) (idle : (c d : C) (s : S) (x : Right) → Move c φ s x d → ⊥) (low : OnTop top φ → T (has_top top [])) where
    -- A run goes the same way over the floor.
    pub floored : {c d : C} {w : List ℕ} {ss : List S} → Path Move Switch top c w ss d → Path Move Switch top c (w ++ φ ∷ []) ss d
    floored {w = w} (Path.stop h) = Path.stop (top_over top φ w h)
    floored (Path.change s p) = Path.change s (floored p)
    floored (Path.move {c₁ = c₁} {d = d} {x = x} {w = w} {ss = ss} m p) =
        Path.move m (subst (λ u. Path Move Switch top c₁ u ss d) (put_on x w (φ ∷ [])) (floored p))

    -- A run over the floor never takes it.
    pub unfloored : {c d : C} {u : List ℕ} {ss : List S} → Path Move Switch top c u ss d → (w : List ℕ) → u ≡ w ++ φ ∷ []
        → Path Move Switch top c w ss d
    unfloored (Path.stop h) w e = Path.stop (top_under top φ low w (rw e at h))
    unfloored (Path.change s p) w e = Path.change s (unfloored p w e)
    unfloored (Path.move {c = c} {c₁ = c₁} {γ = γ} {s = s} {x = x} m p) [] e =
        let bare : γ ≡ φ = cc in absurd (idle c c₁ s x (subst (λ i. Move c i s x c₁) bare m))
    unfloored (Path.move {c = c} {c₁ = c₁} {γ = γ} {s = s} {x = x} {w = v} m p) (y ∷ w) e =
        let same : γ ≡ y = cc in
        let below : v ≡ w ++ φ ∷ [] = cc in
        Path.move (subst (λ i. Move c i s x c₁) same m)
        (unfloored p (put x w) (ap (put x) below ∙ sym (put_on x w (φ ∷ []))))
