-- The exits of a thread along a line, filled from its table in the order of their addresses.
use Rattle.std.specs.Prelude.{List, ◌≡◌, ℕ, ◌+◌, ◌-◌, ◌*◌, ◌/◌, ◌%◌, ◌≤◌, ◌<◌, length, get_or}
use Rattle.summary.specs.Cells.{gone}
use Rattle.summary.specs.Control.{cell_from}
use Rattle.summary.specs.Edges.{cell}
use Rattle.summary.specs.Table.{unreached}
use Rattle.run.specs.Exits.{exits_size, row_of, exit_at}
use Rattle.run.specs.declared.plan.Plan.{Plan}
use Rattle.run.specs.Plan.{ends_in}

-- What the table has for the stretches from control p of turn j, with γ on top, to destination d of turn k.
abbrev pub stretch_in : List ℕ → Plan → ℕ → ℕ → ℕ → ℕ → ℕ → ℕ
stretch_in table plan j p γ k d = cell table (cell_from plan.controls (ends_in plan) (k - j) j p γ d)

-- A count is right for cell y in the row of place x and symbol γ, with the end at destination `dest`.
pub record Holds (table : List ℕ) (plan : Plan) (dest x γ y count : ℕ) : Type 0 where
  -- the symbol is gone at control q of turn k
  pub gone : (j p k q : ℕ) → j ≤ plan.n → p < plan.controls → j ≤ k → k ≤ plan.n → q < plan.controls → x ≡ 8 * j + p → y ≡ 8 * k + q
      → count ≡ stretch_in table plan j p γ k (gone q)
  -- that never is in an earlier turn
  pub early : (j p k q : ℕ) → j ≤ plan.n → p < plan.controls → k < j → q < plan.controls → x ≡ 8 * j + p → y ≡ 8 * k + q
      → count ≡ unreached
  -- something stands in its place at the end
  pub stays : (j p : ℕ) → j ≤ plan.n → p < plan.controls → x ≡ 8 * j + p → y ≡ 24 → count ≡ stretch_in table plan j p γ plan.n dest
  -- a place that no control has is never reached
  pub none : y < 24 → (y % 8 < plan.controls → y / 8 ≤ plan.n → ⊥) → unreached ≤ count

-- The cells below a bound are right, and those from there on are still unreached.
pub record FilledTo (table : List ℕ) (plan : Plan) (dest bound : ℕ) (exits : List ℕ) : Type 0 where
  pub size : length exits ≡ exits_size
  pub done : (x γ y : ℕ) → γ ≤ 16 → y ≤ 24 → row_of x γ + y < bound → Holds table plan dest x γ y (exit_at exits x γ y)
  pub rest : (i : ℕ) → bound ≤ i → i < exits_size → get_or exits i 0 ≡ unreached

-- Cells from one bound to another have been filled, whatever the end.
abbrev pub Extends : List ℕ → Plan → ℕ → ℕ → List ℕ → List ℕ → Type 0
Extends table plan from to old new = (dest : ℕ) → FilledTo table plan dest from old → FilledTo table plan dest to new

-- All exits are filled: for each control and symbol, to each control where the symbol may be gone, and to the end.
abbrev pub Filled : List ℕ → Plan → ℕ → List ℕ → Type 0
Filled table plan dest exits = FilledTo table plan dest exits_size exits

-- Exits of which none is filled.
pub record Fresh (exits : List ℕ) : Type 0 where
  pub size : length exits ≡ exits_size
  pub all : (i : ℕ) → i < exits_size → get_or exits i 0 ≡ unreached
