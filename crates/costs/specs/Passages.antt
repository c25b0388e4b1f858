-- The turn ends that a passage goes by, and where it ends.
use Rattle.std.specs.Prelude.{◌≡◌, ℕ, ◌+◌}
use Rattle.model.specs.Tops.{Top}
use Rattle.summary.specs.Cells.{stays_of}
use Rattle.summary.specs.Control.{TurnEnd}
use Rattle.costs.specs.declared.passage.Passage.{Passage}
use Rattle.costs.specs.Lanes.{end_lane}

-- A passage goes along turn ends to a state under a top.
pub record Along {N : ℕ} (p : Passage N) (ends : ℕ → TurnEnd) (f : Top) (s : ℕ) : Type 0 where
  pub first : p.a ≡ end_lane ends 0
  pub second : p.b ≡ end_lane ends 1
  pub to : p.to ≡ stays_of f + s
