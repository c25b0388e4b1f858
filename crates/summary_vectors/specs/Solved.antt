-- A table with two of its parts solved.
use Rattle.std.specs.Prelude.{List, ℕ}
use Rattle.summary.specs.declared.pushdown.Pushdown.{Pushdown}
use Rattle.summary.specs.Cells.{controls_of, second, First, Solved}

-- The parts of a table with at most one turn end inside are solved for a pushdown system.
abbrev pub FirstSolved : Pushdown → List ℕ → Type 0
FirstSolved p table = Solved (controls_of p.th p.g) (First p.th p.top (controls_of p.th p.g)) (second (controls_of p.th p.g)) table
