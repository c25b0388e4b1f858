-- One thread along a line: its controls, moves and switches, and the cell of the table for each of its stretches.
use Rattle.std.specs.Prelude.{Bool, false, cond, List, ◌≡◌, ℕ, zero, suc, ◌+◌, ◌-◌, ◌*◌, ◌%◌, ◌≤◌, ◌<◌, T, leb}
use Rattle.model.specs.Bits.{one_if}
use Rattle.model.specs.declared.Right.{Right}
use Rattle.model.specs.declared.Symbol.{Symbol}
use Rattle.model.specs.declared.Thread.{Thread}
use Rattle.model.specs.Tops.{Top}
use Rattle.std.specs.Prelude.{None, Some}
use Rattle.model.specs.Rules.{rule_at, applies, held_at}
use Rattle.model.specs.Walk.{Step}
use Rattle.summary.specs.Cells.{number_of, controls_of, plain, lane, lane_of, first, second, stays_of}
use Rattle.summary.specs.Edges.{cell}
use Rattle.summary.specs.Stretch.{End, pop, stay, end_of, Asks}
use Rattle.summary.specs.Table.{unreached, Exact}

-- A control: how many turn ends of the thread have passed, whether its last step was held, and the shared state.
pub record Control : Type 0 where
  pub passed : ℕ
  pub held : Bool
  pub shared : ℕ

-- The number of a control in the table, which leaves out the turn ends.
abbrev pub number : Control → ℕ
number c = number_of c.held c.shared

-- The control after so many turn ends that has a number.
abbrev pub numbered : ℕ → ℕ → Control
numbered j p = record { passed = j; held = leb 4 p; shared = p % 4 }

-- A turn end inside a thread's run: the state in which its turn is left, and that in which its next turn is entered.
pub record TurnEnd : Type 0 where
  pub leave : ℕ
  pub enter : ℕ

-- A step of a thread's rules; `turn_of` numbers the thread's own turns.
pub record Moves (t : Thread) (turn_of : ℕ → ℕ) (c : Control) (γ : ℕ) (s : Step) (x : Right) (d : Control) : Type 0 where
  pub rule : T (applies t s.rule c.shared γ)
  pub right : (rule_at t s.rule).right ≡ x
  pub shared : d.shared ≡ (rule_at t s.rule).after.0
  pub held : d.held ≡ held_at t s.rule
  pub passed : d.passed ≡ c.passed
  pub turn : s.turn ≡ turn_of c.passed

-- A turn end, of the n that the line has for the thread: left in one state, not after a held step, entered in the other, at no cost.
pub record Switches (ends : ℕ → TurnEnd) (n : ℕ) (c d : Control) : Type 0 where
  pub more : c.passed < n
  pub free : c.held ≡ false
  pub leave : c.shared ≡ (ends c.passed).leave
  pub enter : d.shared ≡ (ends c.passed).enter
  pub fresh : d.held ≡ false
  pub passed : d.passed ≡ suc c.passed

-- The number of a destination: the pops at a state are 0 to 3, the stays under any top 4 to 7, those under the named top 8 to 11, the
-- pops at a state after a held step 12 to 15.
abbrev pub dest : End Control → ℕ
dest (pop c) = 12 * one_if c.held + c.shared
dest (stay top c) = stays_of top + c.shared

-- The cell of a stretch with so many turn ends inside, from control number p after j turn ends, in a table of so many controls; with
-- two, in the table that is solved for the first of them.
abbrev pub cell_from : ℕ → (ℕ → TurnEnd) → ℕ → ℕ → ℕ → ℕ → ℕ → ℕ
cell_from controls ends zero j p γ d = plain p γ d
cell_from controls ends (suc zero) j p γ d = lane (first controls) p γ d + lane_of (ends j).leave (ends j).enter
cell_from controls ends (suc (suc more)) j p γ d =
    lane (second controls) p γ d + lane_of (ends (suc j)).leave (ends (suc j)).enter

-- The entry of a stretch: what its cell holds, and none where the destination lies in an earlier turn.
abbrev pub entry : ℕ → (ℕ → TurnEnd) → List ℕ → Control → ℕ → End Control → ℕ
entry controls ends table c γ d =
    cond (leb c.passed (end_of d).passed) (cell table (cell_from controls ends ((end_of d).passed - c.passed) c.passed (number c) γ (dest d)))
    unreached

-- A control that a table of so many controls has cells for, with n turn ends.
pub record InTable (controls n : ℕ) (c : Control) : Type 0 where
  pub passed : c.passed ≤ n
  pub shared : c.shared < 4
  pub number : number c < controls

-- The tops that a table for a top has destinations for: any top will do, or the one that is named.
pub data Known : Top → Top → Type 0 where
  any : {top : Top} → Known top None
  named : {s : Symbol} → Known (Some s) (Some s)

-- The stays that a table for a top has destinations for: under a known top, and not after a held step.
pub record Stays (top f : Top) (c : Control) : Type 0 where
  pub known : Known top f
  pub free : c.held ≡ false

-- A destination of a table of so many controls for a top, with n turn ends.
abbrev pub EndInTable : Top → ℕ → ℕ → End Control → Type 0
EndInTable top controls n d = InTable controls n (end_of d) × Asks (Stays top) d

-- The states of n turn ends are below g.
abbrev pub Inside : ℕ → ℕ → (ℕ → TurnEnd) → Type 0
Inside g n ends = (j : ℕ) → j < n → ((ends j).leave < g) × ((ends j).enter < g)

-- Every entry of the table for a top is exact: the capped least number of steps of the stretches of the thread along any line with
-- these turn ends, whatever the numbers of its turns.
pub record Summed (t : Thread) (top : Top) (g n : ℕ) (ends : ℕ → TurnEnd) (table : List ℕ) : Type 0 where
  pub exact : (turn_of : ℕ → ℕ) (c : Control) (γ : ℕ) (d : End Control) → InTable (controls_of t g) n c → γ ≤ 16
      → EndInTable top (controls_of t g) n d
      → Exact (Moves t turn_of) (Switches ends n) c γ d (entry (controls_of t g) ends table c γ d)
