-- Pushdown systems with one stack: states, rules and runs, for whatever rules there are.
use Rattle.std.specs.Prelude.{List, ◌∷◌, ◌++◌, ℕ}

-- A state: the turn counter, and the copies of the shared state, one for each round.
pub record State : Type 0 where
  pub counter : ℕ
  pub copies : List ℕ

-- A rule: at a state and with a symbol on top, the next state and the new symbols that come in place of the top, the first of them on top.
pub record StackRule : Type 0 where
  pub state : State
  pub top : ℕ
  pub next : State
  pub new : List ℕ

-- A run, by the rules that are allowed, of any length and at any depth: from a state and a stack to a state and a stack, tops first.
pub data Run (Allows : StackRule → Type 0) : State → List ℕ → State → List ℕ → Type 0 where
  -- the run stops
  stop : {s : State} {w : List ℕ} → Run Allows s w s w
  -- a rule replaces the top, and the run goes on
  step : {s n t : State} {top : ℕ} {new w v : List ℕ} → Allows (record { state = s; top = top; next = n; new = new })
      → Run Allows n (new ++ w) t v → Run Allows s (top ∷ w) t v

-- A symbol can come on top at a state, whatever stands below it.
abbrev pub Tops : (StackRule → Type 0) → ℕ → State → List ℕ → State → Type 0
Tops Allows symbol s w t = (v : List ℕ) × Run Allows s w t (symbol ∷ v)
