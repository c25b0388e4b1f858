-- How deep the stacks get while a schedule is walked.
use Rattle.std.specs.Prelude.{List, [], ◌∷◌, ◌≡◌, ℕ, max, length}
use Rattle.model.specs.declared.Depths.{Depths}
use Rattle.model.specs.declared.Model.{Model}
use Rattle.model.specs.declared.ThreadId.{ThreadId}
use Rattle.model.specs.declared.ThreadId.TheVariants.{A, B}
use Rattle.model.specs.Results.{refused, accepted}
use Rattle.model.specs.Walk.{stack_of, Config, Step, Walked, start_of, step_from}

-- How many symbols a thread's stack holds in a configuration.
abbrev pub height_of : ThreadId → Config → ℕ
height_of i c = length (stack_of i c.stacks)

-- The depth from a step on; none, where it is refused.
abbrev pub depth_past : Walked → (Config → ℕ) → ℕ
depth_past (refused n) next = 0
depth_past (accepted d) next = next d

-- The depth of a thread's stack over the walk of steps from a configuration: the greatest number of symbols that it holds, there or after
-- any step.
unfoldable pub depth_from : ThreadId → Model → Config → List Step → ℕ
depth_from i m c [] = height_of i c
depth_from i m c (s ∷ ss) = max (height_of i c) (depth_past (step_from m c s) (λ d. depth_from i m d ss))

-- The depths of both stacks in the run of a schedule: from the start on, where each holds one symbol.
abbrev pub depths_of : Model → List Step → Depths
depths_of m ss = record { a = depth_from A m (start_of m) ss; b = depth_from B m (start_of m) ss }

-- The configurations that a walk passes: where it is, and those that its steps come to.
pub data Passes (m : Model) : Config → List Step → Config → Type 0 where
  here : {c : Config} {ss : List Step} → Passes m c ss c
  later : {c d e : Config} {s : Step} {ss : List Step} → step_from m c s ≡ accepted d → Passes m d ss e → Passes m c (s ∷ ss) e
