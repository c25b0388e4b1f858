-- Runs of any length and depth: legal schedules, and the lines of shared states at which turns end.
use Rattle.std.specs.Prelude.{Bool, false, List, [], ◌∷◌, ◌≡◌, ℕ, suc, ◌<◌, T, length}
use Rattle.model.specs.declared.Model.{Model}
use Rattle.model.specs.Lines.{last_of}
use Rattle.model.specs.Results.{accepted}
use Rattle.model.specs.Rules.{applies, put, held_at}
use Rattle.model.specs.Walk.{owner_of, thread_of, rule_of, Stacks, stack_of, with_stack, start_stacks, start_of, under_tops, at_target}
use Rattle.model.specs.Walk.{Step, walk}

-- A schedule leads to a shared state and stacks: the walk from the start refuses no step of it and ends there, the last step made in
-- some turn. A schedule that leads anywhere is legal: it is a run of at most K rounds written down. Turns that no step names are empty.
pub record Leads (m : Model) (ss : List Step) (shared : ℕ) (stacks : Stacks) : Type 0 where
  pub turn : ℕ
  pub walked : walk m (start_of m) ss ≡ accepted (record { turn = turn; held = false; shared = shared; stacks = stacks })

-- A schedule reaches the target if its run ends there: with the target state, under the tops that are named.
pub record Reaches (m : Model) (ss : List Step) : Type 0 where
  pub shared : ℕ
  pub stacks : Stacks
  pub leads : Leads m ss shared stacks
  pub target : T (at_target m shared stacks)

-- A run turn by turn, from a turn, whether a held step was just made in it, a shared state and stacks on: the line (sequence of shared
-- states at context switches) at which its turns end, its steps, and the stacks where it stops.
pub data Turns (m : Model) : ℕ → Bool → ℕ → Stacks → List ℕ → List Step → Stacks → Type 0 where
  -- the run stops after a turn
  stop : {t q : ℕ} {σ : Stacks} → Turns m t false q σ [] [] σ
  -- the turn ends here, not after a held step, and the next one begins
  end : {t q : ℕ} {σ τ : Stacks} {line : List ℕ} {ss : List Step} → Turns m (suc t) false q σ line ss τ
      → Turns m t false q σ (q ∷ line) ss τ
  -- the turn's thread makes a step; its turn ends later on
  move : {t q r top o : ℕ} {held : Bool} {σ τ : Stacks} {w line : List ℕ} {ss : List Step}
      → stack_of (owner_of t) σ ≡ top ∷ w
      → T (applies (thread_of (owner_of t) m) r q top)
      → Turns m t (held_at (thread_of (owner_of t) m) r) (rule_of m t r).after.0 (with_stack (owner_of t) (put (rule_of m t r).right w) σ) (o ∷ line) ss τ
      → Turns m t held q σ (o ∷ line) (record { turn = t; rule = r } ∷ ss) τ

-- A run from the start along a line, its steps, and the stacks where it stops.
abbrev pub RunOf : Model → List ℕ → List Step → Stacks → Type 0
RunOf m line ss σ = Turns m 0 false m.start.0 (start_stacks m) line ss σ

-- A line is marked exactly if some run ends its turns so, whatever its stacks then hold.
abbrev pub Marked : Model → List ℕ → Type 0
Marked m line = (ss : List Step) × (σ : Stacks) × RunOf m line ss σ

-- The steps of a run from the start along a line that stops under the model's tops.
abbrev pub EndsUnder : Model → List ℕ → List Step → Type 0
EndsUnder m line ss = (σ : Stacks) × RunOf m line ss σ × T (under_tops m σ)

-- All steps are made in turns below n.
abbrev pub TurnsBelow : ℕ → List Step → Type 0
TurnsBelow n [] = Unit {0}
TurnsBelow n (s ∷ ss) = (s.turn < n) × TurnsBelow n ss

-- A run from the start along some line of n states, the last of them q, with these steps, to these stacks.
pub record Along (m : Model) (n : ℕ) (ss : List Step) (q : ℕ) (σ : Stacks) : Type 0 where
  pub line : List ℕ
  pub size : length line ≡ n
  pub turns : RunOf m line ss σ
  pub last : last_of m.start.0 line ≡ q
