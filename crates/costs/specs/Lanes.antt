-- The cells that the cost of a line reads, by the lane of the last turn end inside, and the costs that are known when the
-- lines with some first turn ends are done.
use Rattle.std.specs.Prelude.{cond, List, ◌≡◌, ℕ, zero, suc, ◌+◌, ◌*◌, ◌^◌, ◌≤◌, ◌<◌, eqb, length, get_or}
use Rattle.model.specs.declared.Model.{Model}
use Rattle.model.specs.Tops.{Top}
use Rattle.model.specs.Lines.{digits}
use Rattle.model.specs.declared.ThreadId.{ThreadId}
use Rattle.summary.specs.Cells.{controls_of, plain, lane, lane_of, first, second, size, First, Solved}
use Rattle.summary.specs.Control.{TurnEnd}
use Rattle.summary.specs.declared.pushdown.Pushdown.{Pushdown}
use Rattle.costs.specs.declared.side.Side.{Side}
use Rattle.costs.specs.Cost.{line_cost, LeastAt, Costs}
use Rattle.costs.specs.Ends.{ends_of}

-- So many full lines there are at most: four states at the ends of six turns.
abbrev pub full_lines : ℕ
full_lines = 4096

-- A table has the cells that each thread of a model needs.
pub record TableFor (m : Model) (table : List ℕ) : Type 0 where
  pub a : size (controls_of m.a m.g) ≤ length table
  pub b : size (controls_of m.b m.g) ≤ length table

-- The parts of a table with at most one turn end inside are solved for a pushdown system.
abbrev pub FirstSolved : Pushdown → List ℕ → Type 0
FirstSolved p table = Solved (controls_of p.th p.g) (First p.th p.top (controls_of p.th p.g)) (second (controls_of p.th p.g)) table

-- A number is the value of a full line of a side.
abbrev pub Value : Side → ℕ → Type 0
Value side v = v < side.system.g ^ (2 * suc side.n)

-- The full line of a side that has a value.
abbrev pub line_of : Side → ℕ → List ℕ
line_of side v = digits side.system.g (2 * suc side.n) v

-- A list of the costs of a side to a top.
abbrev pub SideCosts : Side → Top → List ℕ → Type 0
SideCosts side top costs = Costs side.system.th top side.id side.system.g side.n side.start costs

-- A cost is the least number of steps of a side along the full line whose value is v.
abbrev pub SideLeast : Side → Top → ℕ → ℕ → Type 0
SideLeast side top v cost = LeastAt side.system.th top side.id side.system.g side.n side.start v cost

-- The cell of a stretch from control number p, in a table of so many controls, with so many turn ends inside, where l is the lane of the
-- last of them.
abbrev pub cell_at : ℕ → ℕ → ℕ → ℕ → ℕ → ℕ → ℕ
cell_at controls zero p γ d l = plain p γ d
cell_at controls (suc zero) p γ d l = lane (first controls) p γ d + l
cell_at controls (suc (suc more)) p γ d l = lane (second controls) p γ d + l

-- The lane of turn end j.
abbrev pub end_lane : (ℕ → TurnEnd) → ℕ → ℕ
end_lane ends j = lane_of (ends j).leave (ends j).enter

-- A number is the lane of the turn end before turn j; before turn 0 there is none.
abbrev pub LaneTo : (ℕ → TurnEnd) → ℕ → ℕ → Type 0
LaneTo ends zero l = Unit {0}
LaneTo ends (suc j) l = l ≡ end_lane ends j

-- The lane of turn end j of the line of `size` states whose value is v.
abbrev pub line_lane : ThreadId → ℕ → ℕ → ℕ → ℕ → ℕ
line_lane id g size v j = end_lane (ends_of id (digits g size v)) j

-- The lane of a side's first turn end along the full line whose value is v.
abbrev pub first_lane : Side → ℕ → ℕ
first_lane side v = line_lane side.id side.system.g (2 * suc side.n) v 0

-- A list of the lanes of the first turn ends of all full lines of a side.
pub record FirstLanes (side : Side) (lanes : List ℕ) : Type 0 where
  pub lane : (v : ℕ) → Value side v → get_or lanes v 0 ≡ first_lane side v

-- The cost of the full line whose value is v, read off a table.
abbrev pub cost_of : List ℕ → Side → Top → ℕ → ℕ
cost_of table side top v =
    line_cost side.id table (controls_of side.system.th side.system.g) side.n side.start side.system.th.first.0 top (line_of side v)

-- The costs of the lines whose first turn end has a lane below l.
abbrev pub CostsTo : Side → Top → ℕ → List ℕ → Type 0
CostsTo side top l costs = (v : ℕ) → Value side v → first_lane side v < l → SideLeast side top v (get_or costs v 0)

-- The costs of all full lines, read off a table into a list.
abbrev pub ReadOff : List ℕ → Side → List ℕ → Top → Type 0
ReadOff table side costs top = (v : ℕ) → Value side v → get_or costs v 0 ≡ cost_of table side top v

-- The same of the lines whose first turn end has the lane l; the others keep their costs.
abbrev pub SliceOff : List ℕ → Side → ℕ → List ℕ → List ℕ → Top → Type 0
SliceOff table side l old new top =
    (v : ℕ) → Value side v → get_or new v 0 ≡ cond (eqb (first_lane side v) l) (cost_of table side top v) (get_or old v 0)
