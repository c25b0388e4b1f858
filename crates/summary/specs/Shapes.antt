-- A shape, as the definitions of the edges read it.
use Rattle.summary.specs.declared.shape.Shape.{Shape}
use Rattle.summary.specs.Sizes.{Sizes}

-- The numbers of a shape.
abbrev pub sizes : Shape → Sizes
sizes sh = record { controls = sh.controls; stays = sh.stays; dests = sh.dests }
