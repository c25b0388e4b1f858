-- The edges of a search.
use Rattle.std.specs.Prelude.{ℕ}
use Rattle.summary.specs.declared.search.Search.{Search}
use Rattle.summary.specs.Cells.{RulesFrom, Rules}
use Rattle.summary.specs.Edges.{Edge}
use Rattle.summary.specs.Kinds.{RuleEdges, part_end}
use Rattle.summary.specs.Shapes.{sizes}

-- The number of controls of a search's table.
abbrev pub controls : Search → ℕ
controls s = s.system.now.shape.controls

-- Where the cells end that its edges join.
abbrev pub end : Search → ℕ
end s = part_end (controls s) s.kind

-- Its edges from the controls with flag f.
abbrev pub EdgesFrom : Search → ℕ → Edge → Type 0
EdgesFrom s = RulesFrom s.system.now.th (RuleEdges s.kind (sizes s.system.now.shape))

-- All of its edges.
abbrev pub AllEdges : Search → Edge → Type 0
AllEdges s = Rules s.system.now.th (controls s) (RuleEdges s.kind (sizes s.system.now.shape))
