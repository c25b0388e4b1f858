-- Runs of one pushdown system, and its stretches (summaries): what becomes of one stack symbol, however deep the run goes.
-- Generic over the controls, the labels of steps, the moves and the switches (free changes of control).
use Rattle.std.specs.Prelude.{List, [], ◌∷◌, ℕ, T}
use Rattle.model.specs.declared.Right.{Right}
use Rattle.model.specs.declared.Right.TheVariants.{Remove, Swap, Push}
use Rattle.model.specs.declared.Symbol.{Symbol}
use Rattle.model.specs.Tops.{Top}
use Rattle.model.specs.Rules.{put}
use Rattle.model.specs.Walk.{has_top}

-- A symbol is a top that will do.
abbrev pub OnTop : Top → ℕ → Type 0
OnTop top γ = T (has_top top (γ ∷ []))

-- How a stretch over a symbol ends: the symbol and all that came of it is gone; or something still stands in its place, under a top
-- that will do.
pub data End (C : Type 0) : Type 0 where
  pop : C → End C
  stay : Top → C → End C

-- The control where a stretch ends.
abbrev pub end_of : {C : Type 0} → End C → C
end_of (pop c) = c
end_of (stay top c) = c

-- The stays that a destination may be are of a kind; where the symbol is gone, nothing is asked.
abbrev pub Asks : {C : Type 0} → (Top → C → Type 0) → End C → Type 0
Asks Ask (pop c) = Unit {0}
Asks Ask (stay top c) = Ask top c

module _ {C S : Type 0} (Move : C → ℕ → S → Right → C → Type 0) (Switch : C → C → Type 0) where
  -- A run from a control and a stack, its steps, and the control where it stops, under a top that will do. A switch needs no top.
  pub data Path (top : Top) : C → List ℕ → List S → C → Type 0 where
    stop : {c : C} {w : List ℕ} → T (has_top top w) → Path top c w [] c
    move : {c c₁ d : C} {γ : ℕ} {s : S} {x : Right} {w : List ℕ} {ss : List S}
        → Move c γ s x c₁ → Path top c₁ (put x w) ss d → Path top c (γ ∷ w) (s ∷ ss) d
    change : {c c₁ d : C} {w : List ℕ} {ss : List S} → Switch c c₁ → Path top c₁ w ss d → Path top c w ss d

  -- A stretch from a control with a symbol on top: it uses the steps of the first list that stand before the second.
  pub data Stretch : C → ℕ → End C → List S → List S → Type 0 where
    here : {top : Top} {c : C} {γ : ℕ} {ss : List S} → OnTop top γ → Stretch c γ (stay top c) ss ss
    remove : {c c₁ : C} {γ : ℕ} {s : S} {ss : List S} → Move c γ s Remove c₁ → Stretch c γ (pop c₁) (s ∷ ss) ss
    swap : {c c₁ : C} {γ : ℕ} {s : S} {a : Symbol} {d : End C} {ss rest : List S}
        → Move c γ s (Swap a) c₁ → Stretch c₁ a.0 d ss rest → Stretch c γ d (s ∷ ss) rest
    both : {c c₁ q : C} {γ : ℕ} {s : S} {a b : Symbol} {d : End C} {ss mid rest : List S}
        → Move c γ s (Push a b) c₁ → Stretch c₁ a.0 (pop q) ss mid → Stretch q b.0 d mid rest
        → Stretch c γ d (s ∷ ss) rest
    above : {top : Top} {c c₁ q : C} {γ : ℕ} {s : S} {a b : Symbol} {ss rest : List S}
        → Move c γ s (Push a b) c₁ → Stretch c₁ a.0 (stay top q) ss rest → Stretch c γ (stay top q) (s ∷ ss) rest
    change : {c c₁ : C} {γ : ℕ} {d : End C} {ss rest : List S} → Switch c c₁ → Stretch c₁ γ d ss rest → Stretch c γ d ss rest
