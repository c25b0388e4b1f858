-- The parts of a thread's table that all lines share.
use Rattle.std.specs.Prelude.{List, ◌≡◌, ℕ, zero, suc, ◌*◌, ◌≤◌, length}
use Rattle.model.specs.declared.Thread.{Thread}
use Rattle.model.specs.Tops.{Top}
use Rattle.model.specs.declared.ThreadId.{ThreadId}
use Rattle.model.specs.Lines.{digits}
use Rattle.costs.specs.declared.side.Side.{Side}
use Rattle.costs.specs.Ends.{ends_of}
use Rattle.summary.specs.Cells.{controls_of, size, first, second, Plain, First, Solved}
use Rattle.summary.specs.Control.{TurnEnd, Inside, Summed}

-- They are solved for a top and n turn ends: without any, the part with none inside; else those with at most one inside.
abbrev pub Base : Thread → Top → ℕ → ℕ → List ℕ → Type 0
Base t top g zero table = Solved (controls_of t g) (Plain t top (controls_of t g)) (first (controls_of t g)) table
Base t top g (suc n) table = Solved (controls_of t g) (First t top (controls_of t g)) (second (controls_of t g)) table

-- The rest is solved, too, for the lines with two turn ends whose first one is (o, i).
abbrev pub ExactFor : Thread → Top → ℕ → ℕ → ℕ → List ℕ → Type 0
ExactFor t top g o i table = (ends : ℕ → TurnEnd) → Inside g 2 ends → (ends 0).leave ≡ o → (ends 0).enter ≡ i → Summed t top g 2 ends table

-- The same for those with the first turn end of the full line whose value is v, where there are two turn ends.
abbrev pub SolvedFor : Thread → Top → ThreadId → ℕ → ℕ → ℕ → List ℕ → Type 0
SolvedFor t top id g n v table =
    n ≡ 2 → ExactFor t top g (ends_of id (digits g (2 * suc n) v) 0).leave (ends_of id (digits g (2 * suc n) v) 0).enter table

-- The table of a thread's side.
abbrev pub SideBase : Side → List ℕ → Type 0
SideBase side = Base side.system.th side.system.top side.system.g side.n

-- The same, solved for the first turn end of the full line whose value is v.
abbrev pub SideSolved : Side → ℕ → List ℕ → Type 0
SideSolved side = SolvedFor side.system.th side.system.top side.id side.system.g side.n

-- A table has the cells of a side.
abbrev pub SideRoom : Side → List ℕ → Type 0
SideRoom side table = size (controls_of side.system.th side.system.g) ≤ length table
