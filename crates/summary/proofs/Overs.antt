-- Runs are stretches over the whole stack: a run either stops while something stands in the top symbol's place, or the
-- top symbol goes and the run goes on below. By recursion on the run, with no induction on its length.
use mathlib.Core.List.{List, [], ◌∷◌}
use Prim.Native.Nat.{ℕ}
use lib.Dec.{T}
use Rattle.model.specs.declared.Right.{Right}
use Rattle.model.specs.declared.Right.TheVariants.{Remove, Swap, Push}
use Rattle.model.specs.declared.Symbol.{Symbol}
use Rattle.model.specs.Tops.{Top}
use Rattle.std.specs.Prelude.{None, Some}
use Rattle.model.specs.Walk.{has_top}
use Rattle.summary.specs.Stretch.{pop, stay, Path, Stretch}

-- What lies below a top does not matter to it.
pub on_top_lem : (top : Top) (γ : ℕ) (v w : List ℕ) → T (has_top top (γ ∷ v)) → T (has_top top (γ ∷ w))
on_top_lem None γ v w h = tt
on_top_lem (Some s) γ v w h = h

-- Switches alone, which are all that an empty stack may do.
pub data Idling {C : Type 0} (Switch : C → C → Type 0) : C → C → Type 0 where
  none : {c : C} → Idling Switch c c
  more : {c c₁ d : C} → Switch c c₁ → Idling Switch c₁ d → Idling Switch c d

module _ {C S : Type 0} (Move : C → ℕ → S → Right → C → Type 0) (Switch : C → C → Type 0) (top : Top) where
  -- The whole stack as a list of stretches.
  pub data Over : C → List ℕ → List S → C → Type 0 where
    bare : {c d : C} → T (has_top top []) → Idling Switch c d → Over c [] [] d
    within : {c d : C} {γ : ℕ} {w : List ℕ} {ss : List S} → Stretch Move Switch c γ (stay top d) ss [] → Over c (γ ∷ w) ss d
    gone : {c q d : C} {γ : ℕ} {w : List ℕ} {ss mid : List S}
        → Stretch Move Switch c γ (pop q) ss mid → Over q w mid d → Over c (γ ∷ w) ss d

  over_change : {c c₁ d : C} {w : List ℕ} {ss : List S} → Switch c c₁ → Over c₁ w ss d → Over c w ss d
  over_change s (bare h r) = bare h (Idling.more s r)
  over_change s (within r) = within (Stretch.change s r)
  over_change s (gone r o) = gone (Stretch.change s r) o

  over_swap : {c c₁ d : C} {γ : ℕ} {s : S} {a : Symbol} {w : List ℕ} {ss : List S}
      → Move c γ s (Swap a) c₁ → Over c₁ (a.0 ∷ w) ss d → Over c (γ ∷ w) (s ∷ ss) d
  over_swap m (within r) = within (Stretch.swap m r)
  over_swap m (gone r o) = gone (Stretch.swap m r) o

  over-push : {c c₁ d : C} {γ : ℕ} {s : S} {a b : Symbol} {w : List ℕ} {ss : List S}
      → Move c γ s (Push a b) c₁ → Over c₁ (a.0 ∷ b.0 ∷ w) ss d → Over c (γ ∷ w) (s ∷ ss) d
  over-push m (within r) = within (Stretch.above m r)
  over-push m (gone r (within q)) = within (Stretch.both m r q)
  over-push m (gone r (gone q o)) = gone (Stretch.both m r q) o

  -- A run is stretches over its stack.
  pub overs : {c d : C} {w : List ℕ} {ss : List S} → Path Move Switch top c w ss d → Over c w ss d
  overs {w = []} (Path.stop h) = bare h Idling.none
  overs {w = γ ∷ w} (Path.stop h) = within (Stretch.here (on_top_lem top γ w [] h))
  overs (Path.change s p) = over_change s (overs p)
  overs (Path.move {x = Remove} m p) = gone (Stretch.remove m) (overs p)
  overs (Path.move {x = Swap a} m p) = over_swap m (overs p)
  overs (Path.move {x = Push a b} m p) = over-push m (overs p)

  -- A stretch that takes its symbol away, and a run from there on.
  pub pops : {c q d : C} {γ : ℕ} {w : List ℕ} {ss mid : List S}
      → Stretch Move Switch c γ (pop q) ss mid → Path Move Switch top q w mid d → Path Move Switch top c (γ ∷ w) ss d
  pops (Stretch.remove m) p = Path.move m p
  pops (Stretch.swap m r) p = Path.move m (pops r p)
  pops (Stretch.both m r q) p = Path.move m (pops r (pops q p))
  pops (Stretch.change s r) p = Path.change s (pops r p)

  -- A stretch that stays, as a run that stops there.
  pub stays : {c d : C} {γ : ℕ} {w : List ℕ} {ss : List S} → Stretch Move Switch c γ (stay top d) ss []
      → Path Move Switch top c (γ ∷ w) ss d
  stays {γ = γ} {w = w} (Stretch.here o) = Path.stop (on_top_lem top γ [] w o)
  stays (Stretch.swap m r) = Path.move m (stays r)
  stays (Stretch.both m r q) = Path.move m (pops r (stays q))
  stays (Stretch.above m r) = Path.move m (stays r)
  stays (Stretch.change s r) = Path.change s (stays r)

  -- Switches alone are a run over a stack with a top that will do.
  idles : {c d : C} {w : List ℕ} → T (has_top top w) → Idling Switch c d → Path Move Switch top c w [] d
  idles h Idling.none = Path.stop h
  idles h (Idling.more s r) = Path.change s (idles h r)

  -- Stretches over the stack are a run.
  pub runs : {c d : C} {w : List ℕ} {ss : List S} → Over c w ss d → Path Move Switch top c w ss d
  runs (bare h r) = idles h r
  runs (within r) = stays r
  runs (gone r o) = pops r (runs o)
