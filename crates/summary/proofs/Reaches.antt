-- Stretches of a capped number of steps, made in each of the ways that a stretch can be made.
use mathlib.Core.List.{List, [], ◌∷◌, ◌++◌, append_assoc}
use Prim.Native.Nat.{ℕ, ◌+◌, ◌≤◌, min}
use native.Mathlib.Omega.{arith}
use lib.ListN.{length, length-append}
use Rattle.model.specs.declared.Right.{Right}
use Rattle.model.specs.declared.Right.TheVariants.{Remove, Swap, Push}
use Rattle.model.specs.declared.Symbol.{Symbol}
use Rattle.model.specs.Tops.{Top}
use Rattle.summary.specs.Stretch.{End, pop, stay, OnTop, Stretch}
use Rattle.summary.specs.Table.{cap, Uses}

module _ {C S : Type 0} (Move : C → ℕ → S → Right → C → Type 0) (Switch : C → C → Type 0) where
  -- There is a stretch of at most v steps; the cap is for any number.
  abbrev pub Reach : C → ℕ → End C → ℕ → Type 0
  Reach c γ d v = (us : List S) × Uses Move Switch c γ d us × (min (length us) cap ≤ v)

  -- Staying under a top that will do takes no step.
  pub here_reach : (top : Top) (c : C) (γ v : ℕ) → OnTop top γ → Reach c γ (stay top c) v
  here_reach top c γ v o = ([], λ rest. Stretch.here o, omega arith)

  -- A rule that takes the symbol away.
  pub remove_reach : {c c₁ : C} {γ : ℕ} {s : S} (v : ℕ) → 1 ≤ v → Move c γ s Remove c₁ → Reach c γ (pop c₁) v
  remove_reach {s = s} v h m = (s ∷ [], λ rest. Stretch.remove m, omega arith)

  -- A rule that swaps the symbol.
  pub swap_reach : {c c₁ : C} {γ : ℕ} {s : S} {a : Symbol} {d : End C} {y : ℕ} (v : ℕ) → min (1 + y) cap ≤ v
      → Move c γ s (Swap a) c₁ → Reach c₁ a.0 d y → Reach c γ d v
  swap_reach {s = s} v h m r = (s ∷ r.0, λ rest. Stretch.swap m (r.1 rest), omega (arith, r.2))

  -- A rule that pushes, where both symbols come to their turn.
  pub both_reach : {c c₁ q : C} {γ : ℕ} {s : S} {a b : Symbol} {d : End C} {x y : ℕ} (v : ℕ) → min (1 + x + y) cap ≤ v
      → Move c γ s (Push a b) c₁ → Reach c₁ a.0 (pop q) x → Reach q b.0 d y
      → Reach c γ d v
  both_reach {c₁ = c₁} {q = q} {s = s} {a = a} v h m r t =
      let us = r.0 in
      let ws = t.0 in
      let one : (rest : List S) → Stretch Move Switch c₁ a.0 (pop q) ((us ++ ws) ++ rest) (ws ++ rest) = λ rest. rw append_assoc (r.1 (ws ++ rest)) in
      (s ∷ (us ++ ws), λ rest. Stretch.both m (one rest) (t.1 rest), omega (arith, r.2, t.2, length-append us ws))

  -- A rule that pushes, where the first symbol stays.
  pub above_reach : {top : Top} {c c₁ q : C} {γ : ℕ} {s : S} {a b : Symbol} {y : ℕ} (v : ℕ) → min (1 + y) cap ≤ v
      → Move c γ s (Push a b) c₁ → Reach c₁ a.0 (stay top q) y → Reach c γ (stay top q) v
  above_reach {s = s} v h m r = (s ∷ r.0, λ rest. Stretch.above m (r.1 rest), omega (arith, r.2))

  -- A change of control.
  pub change_reach : {c c₁ : C} {γ : ℕ} {d : End C} {y : ℕ} (v : ℕ) → min y cap ≤ v
      → Switch c c₁ → Reach c₁ γ d y → Reach c γ d v
  change_reach v h s r = (r.0, λ rest. Stretch.change s (r.1 rest), omega (arith, r.2))
