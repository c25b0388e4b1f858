-- A search for a run along a line, for lines that a run of few steps follows: where it succeeds, there is such a run. By
-- recursion on the number of steps and turn ends that it may still make.
use mathlib.Core.Bool.{Bool, true, false, ◌&&◌, ◌||◌, not}
use mathlib.Core.List.{List, [], ◌∷◌}
use mathlib.Core.Logic.{inl, inr}
use mathlib.Core.Path.{◌≡◌, refl}
use Prim.Native.Nat.{ℕ, zero, suc}
use lib.Dec.{T, eqb}
use Rattle.model.specs.declared.Model.{Model}
use Rattle.model.specs.Rules.{applies, put, held_at}
use Rattle.model.specs.Runs.{Turns, stop, end, move}
use Rattle.model.specs.Walk.{owner_of, thread_of, rule_of, Stacks, stack_of, with_stack, Step}
use Rattle.model.proofs.Tests.{both, tests}
use Rattle.cases.proofs.Scans.{either, some, some_at}

-- The stack has a top, and the test passes at it and what lies below.
abbrev pub on_top : List ℕ → (ℕ → List ℕ → Bool) → Bool
on_top [] f = false
on_top (x ∷ w) f = f x w

on_top_lem : (l : List ℕ) (f : ℕ → List ℕ → Bool) → T (on_top l f) → (x : ℕ) × (w : List ℕ) × (l ≡ x ∷ w) × T (f x w)
on_top_lem [] f t = absurd t
on_top_lem (x ∷ w) f t = (x, w, refl, t)

-- The stacks after a step in turn t by rule r, where w is what lies below the top.
abbrev pub stacks_by : Model → ℕ → Stacks → List ℕ → ℕ → Stacks
stacks_by m t σ w r = with_stack (owner_of t) (put (rule_of m t r).right w) σ

-- Some run from here on, whether a held step was just made or not, follows the line, with at most so many steps and turn ends.
unfoldable pub finds : ℕ → Model → ℕ → Bool → ℕ → Stacks → List ℕ → Bool
finds zero m t held q σ [] = not held
finds zero m t held q σ (o ∷ line) = false
finds (suc more) m t held q σ [] = not held
finds (suc more) m t held q σ (o ∷ line) =
    let over = finds more m (suc t) false q σ line in
    not held && eqb q o && over ||
    on_top (stack_of (owner_of t) σ) (λ x w. some (thread_of (owner_of t) m).count (λ r.
    let onward = finds more m t (held_at (thread_of (owner_of t) m) r) (rule_of m t r).after.0 (stacks_by m t σ w r) (o ∷ line) in
    applies (thread_of (owner_of t) m) r q x && onward))

-- Where no held step was just made, a run may stop here ..
stops : (m : Model) (t : ℕ) (held : Bool) (q : ℕ) (σ : Stacks) → T (not held)
    → (ss : List Step) × (τ : Stacks) × Turns m t held q σ [] ss τ
stops m t false q σ h = ([], σ, stop)
stops m t true q σ h = absurd h

-- .. or end its turn here.
ends : {m : Model} {t q o : ℕ} (held : Bool) {σ τ : Stacks} {line : List ℕ} {ss : List Step} → T (not held) → q ≡ o
    → Turns m (suc t) false q σ line ss τ → Turns m t held q σ (o ∷ line) ss τ
ends false h e r = rw (← e) (end r)
ends true h e r = absurd h

-- Then there is such a run.
pub finds_run : (more : ℕ) (m : Model) (t : ℕ) (held : Bool) (q : ℕ) (σ : Stacks) (line : List ℕ) → T (finds more m t held q σ line)
    → (ss : List Step) × (τ : Stacks) × Turns m t held q σ line ss τ
unfolding finds
finds_run zero m t held q σ [] h = stops m t held q σ h
finds_run zero m t held q σ (o ∷ line) h = absurd h
finds_run (suc more) m t held q σ [] h = stops m t held q σ h
finds_run (suc more) m t held q σ (o ∷ line) h =
    let over : Bool = finds more m (suc t) false q σ line in
    let flag : ℕ → Bool = λ r. held_at (thread_of (owner_of t) m) r in
    let onward : List ℕ → ℕ → Bool = λ w r. finds more m t (flag r) (rule_of m t r).after.0 (stacks_by m t σ w r) (o ∷ line) in
    let by : ℕ → List ℕ → ℕ → Bool = λ x w r. applies (thread_of (owner_of t) m) r q x && onward w r in
    let moves : ℕ → List ℕ → Bool = λ x w. some (thread_of (owner_of t) m).count (by x w) in
    elim (either (not held && eqb q o && over) (on_top (stack_of (owner_of t) σ) moves) h) [
      | inl z ↦
          let w = simp tests at z in
          let r = finds_run more m (suc t) false q σ line w.1 in
          (r.0, r.1, ends held w.0.0 w.0.1 r.2)
      | inr z ↦
          let s = on_top_lem (stack_of (owner_of t) σ) moves z in
          let by_one = some_at (thread_of (owner_of t) m).count (by s.0 s.1) s.3 in
          let w = (both (applies (thread_of (owner_of t) m) by_one.0 q s.0) (onward s.1 by_one.0)).0 by_one.1 in
          let r = finds_run more m t (flag by_one.0) (rule_of m t by_one.0).after.0 (stacks_by m t σ s.1 by_one.0) (o ∷ line) w.1 in
          (record { turn = t; rule = by_one.0 } ∷ r.0, r.1, move {τ = r.1} {ss = r.0} s.2 w.0 r.2)
    ]
