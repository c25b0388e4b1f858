-- The depth of one thread's stack by its heights alone: what a rule puts in the top's place says how much the stack grows.
use Rattle.std.specs.Prelude.{cond, List, [], ◌∷◌, ◌≡◌, ℕ, ◌+◌, ◌-◌, ◌%◌, ◌≤◌, max, eqb}
use Rattle.model.specs.declared.Model.{Model}
use Rattle.model.specs.declared.Right.{Right}
use Rattle.model.specs.declared.Right.TheVariants.{Remove, Swap, Push}
use Rattle.model.specs.declared.Thread.{Thread}
use Rattle.model.specs.declared.ThreadId.{ThreadId}
use Rattle.model.specs.declared.ThreadId.TheVariants.{A, B}
use Rattle.model.specs.Results.{accepted}
use Rattle.model.specs.Rules.{rule_at}
use Rattle.model.specs.Walk.{thread_of, Config, Step, start_of, walk}

-- How many symbols a right side brings.
abbrev pub size : Right → ℕ
size Remove = 0
size (Swap a) = 1
size (Push a b) = 2

-- What turn numbers of a thread leave when they are divided by two.
abbrev pub parity : ThreadId → ℕ
parity A = 0
parity B = 1

-- The height of a thread's stack after a step, by the parity of its turns: the right side of the step's rule, whose number is below 64,
-- comes, and the top goes; a step of the other thread leaves the stack as it is.
unfoldable pub climbed : Thread → ℕ → ℕ → Step → ℕ
climbed t odd h s = cond (eqb (s.turn % 2) odd) (h + size (rule_at t (s.rule % 64)).right - 1) h

-- The greatest of the heights over some steps, from a height on.
unfoldable pub climb : Thread → ℕ → ℕ → List Step → ℕ
climb t odd h [] = h
climb t odd h (s ∷ ss) = max h (climb t odd (climbed t odd h s) ss)

-- A schedule of a model with at most 64 rules a thread is legal: the walk from the start refuses no step of it. By heights its depths are
-- those of its run (a law).
pub record Legal (m : Model) (ss : List Step) : Type 0 where
  pub few : (i : ThreadId) → (thread_of i m).count ≤ 64
  pub last : Config
  pub walked : walk m (start_of m) ss ≡ accepted last
