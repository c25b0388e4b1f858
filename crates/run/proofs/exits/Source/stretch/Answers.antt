-- `stretch` meets its contract: the lane of the last turn end inside says which cell of the table it is.
use native.Mathlib.Omega.{arith}
use Rattle.run.proofs.Filling.{stretch_at}
use Rattle.run.proofs.exits.Source.stretch.Goals as goal

pub returns : goal.returns
returns c =
    let a = c.args in
    let two = a.self.plan.now.in_range.two in
    stretch_at a.self.table.cells.now a.self.plan.now a.j a.p a.symbol a.k a.d _ c.requires.0 (omega arith) c.lane_before.ensures.0
    (rw a.self.same at c.entry.ensures)
