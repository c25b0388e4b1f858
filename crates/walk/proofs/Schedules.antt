-- A schedule walked two bytes at a time: what is left of it is the next step and the rest, until less than a step is left.
use mathlib.Core.Bool.{true, false, not}
use mathlib.Core.List.{List, [], ◌∷◌}
use mathlib.Core.Path.{◌≡◌, refl, ◌∙◌}
use Prim.Native.Nat.{ℕ, ◌+◌, ◌*◌, ◌/◌, ◌<◌, ◌≤◌}
use native.Mathlib.Omega.{arith}
use lib.ListN.{length, drop, length-drop}
use Rattle.model.specs.declared.Model.{Model}
use Rattle.model.specs.Results.{refused, accepted, need, and_then}
use Rattle.model.specs.Schedules.{steps_of, step_at, steps_from}
use Rattle.model.specs.Walk.{Config, Step, Walked, step_from, walk}
use Rattle.model.proofs.Stores.{first_step, short}
use Rattle.walk.specs.declared.Walk.{Walk}
use Rattle.walk.specs.Stack.{config_of, walk_on}

-- Where the walk is before the step at place i, and that the rest of it comes to what the whole does.
pub record Going (m : Model) (l : List ℕ) (w : Walk) (a b : List ℕ) (v : Walk) (c d : List ℕ) (i : ℕ) : Type 0 where
  pub place : i ≤ length l / 2
  pub one : v.a ≤ w.a + i
  pub two : v.b ≤ w.b + i
  pub rest : walk_on m (config_of w a b) (steps_of l) ≡ walk_on m (config_of v c d) (steps_from l i)

module _ {m : Model} {l : List ℕ} {w : Walk} {a b : List ℕ} {v : Walk} {c d : List ℕ} {i : ℕ}
    (g : Going m l w a b v c d i) where
  -- A step that is made leaves the others to be walked ..
  pub goes_on : i < length l / 2 → {u : Walk} {c' d' : List ℕ}
      → accepted (config_of u c' d') ≡ step_from m (config_of v c d) (step_at l i)
      → (u.a ≤ v.a + 1) × (u.b ≤ v.b + 1)
      → Going m l w a b u c' d' (i + 1)
  unfolding walk_on
  goes_on h p k =
      record {
        place = omega arith;
        one = omega arith;
        two = omega arith;
        rest = g.rest ∙ rw (first_step l i h, ← p);
      }

  -- .. one that is refused is the answer ..
  pub stops : i < length l / 2 → {n : ℕ} → refused n ≡ step_from m (config_of v c d) (step_at l i)
      → refused n ≡ walk_on m (config_of w a b) (steps_of l)
  unfolding walk_on
  stops h p = rw (g.rest, first_step l i h, ← p)

  -- .. and past the last the walk has arrived.
  pub ends : length l / 2 ≤ i → accepted (config_of v c d) ≡ walk_on m (config_of w a b) (steps_of l)
  unfolding walk_on
  ends h = rw (g.rest, short (drop (2 * i) l) (simp length-drop (omega arith)))

-- A walk is its steps and, at the end, that the last is not held.
walk_end : (m : Model) (c : Config) (ss : List Step)
    → walk m c ss ≡ and_then (walk_on m c ss) (λ d. need 12 (not d.held) (accepted d))
unfolding walk walk_on
walk_end m c [] = refl
walk_end m c (s ∷ ss) = go (λ d. walk_end m d ss) (step_from m c s)
  where
    go : ((d : Config) → walk m d ss ≡ and_then (walk_on m d ss) (λ e. need 12 (not e.held) (accepted e))) → (r : Walked)
        → and_then r (λ d. walk m d ss) ≡ and_then (and_then r (λ d. walk_on m d ss)) (λ e. need 12 (not e.held) (accepted e))
    go rest (refused n) = refl
    go rest (accepted d) = rest d

module _ (m : Model) (c : Config) (ss : List Step) where
  -- So a refused step refuses it ..
  pub walk_stops : {n : ℕ} → refused n ≡ walk_on m c ss → refused n ≡ walk m c ss
  walk_stops e = rw (walk_end m c ss, ← e)

  -- .. and so does a held step at the end ..
  pub walk_held : {d : Config} → accepted d ≡ walk_on m c ss → d.held ≡ true → refused 12 ≡ walk m c ss
  walk_held e h = rw (walk_end m c ss, ← e, h)

  -- .. and with no other it arrives.
  pub walk_made : {d : Config} → accepted d ≡ walk_on m c ss → d.held ≡ false → accepted d ≡ walk m c ss
  walk_made e h = rw (walk_end m c ss, ← e, h)

-- A single step is all there is of its steps.
pub walk_one : (m : Model) (c : Config) (s : Step) → walk_on m c (s ∷ []) ≡ step_from m c s
unfolding walk_on
walk_one m c s = go (step_from m c s)
  where
    go : (r : Walked) → and_then r (λ d. accepted d) ≡ r
    go (refused n) = refl
    go (accepted d) = refl
