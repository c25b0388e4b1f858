-- The depth of a stack is the greatest of its heights over the configurations that a walk passes: by recursion on the steps, it is at
-- least each of them, and one of them.
use mathlib.Core.List.{List, [], ◌∷◌}
use mathlib.Core.Path.{◌≡◌, refl, ◌∙◌}
use Prim.Native.Nat.{◌≤◌, max}
use native.Mathlib.Decide.{dec_le}
use native.Mathlib.Omega.{arith}
use Rattle.model.specs.declared.Model.{Model}
use Rattle.model.specs.declared.ThreadId.{ThreadId}
use Rattle.model.specs.Depths.{height_of, depth_past, depth_from, Passes, here, later}
use Rattle.model.specs.Results.{refused, accepted}
use Rattle.model.specs.Walk.{Config, Step, Walked, step_from}

module _ (i : ThreadId) (m : Model) where
  -- It is at least the height where the walk is ..
  pub depth_here : (c : Config) (ss : List Step) → height_of i c ≤ depth_from i m c ss
  unfolding depth_from
  depth_here c [] = omega arith
  depth_here c (s ∷ ss) = omega arith

  -- .. and at every other configuration that it passes ..
  pub depth_bounds : {c e : Config} {ss : List Step} → Passes m c ss e → height_of i e ≤ depth_from i m c ss
  unfolding depth_from
  depth_bounds {c} {ss = ss} here = depth_here c ss
  depth_bounds {c} {e} (later {d = d} {s = s} {ss = ss} made p) =
      let rest = depth_bounds p in
      rw made (omega (arith, rest))

  -- .. and its height at one of these.
  pub depth_reached : (c : Config) (ss : List Step) → (e : Config) × Passes m c ss e × (height_of i e ≡ depth_from i m c ss)
  unfolding depth_from
  depth_reached c [] = (c, here, refl)
  depth_reached c (s ∷ ss) = go (λ d. depth_reached d ss) (step_from m c s) refl
    where
      go : ((d : Config) → (e : Config) × Passes m d ss e × (height_of i e ≡ depth_from i m d ss)) → (w : Walked) → step_from m c s ≡ w
          → (e : Config) × Passes m c (s ∷ ss) e × (height_of i e ≡ max (height_of i c) (depth_past w (λ d. depth_from i m d ss)))
      go reached (refused n) made = (c, here, omega arith)
      go reached (accepted d) made =
          let rest = reached d in
          elim (dec_le (depth_from i m d ss) (height_of i c)) [
            | yes h ↦ (c, here, omega (arith, h))
            | no h ↦ (rest.0, later made rest.1, rest.2 ∙ omega (arith, h))
          ]
