-- `for_line` meets its contract: with two turn ends there is a first one, and what is solved for it is the rest.
use Rattle.run.proofs.Bases.{base_more, base_first, two_some}
use Rattle.run.proofs.solve.for_line.Goals as goal

pub close_second-requires-clause-first : goal.close_second-requires-clause-first
close_second-requires-clause-first c =
    let system = c.args.side.now.system in
    base_first system.th system.top system.g _ _ (two_some c.if-side-ne2.false) c.requires.base

pub returns-clause-base : goal.returns-clause-base
returns-clause-base c =
    let system = c.args.side.now.system in
    base_more system.th system.top system.g _ _ (two_some c.if-side-ne2.false) c.close_second.ensures.solved
