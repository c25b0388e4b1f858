-- `steps` meets its contract: plan, exits and first head are a setting of the writers, whose first run is that along the line.
use mathlib.Core.Path.{sym, ap, subst}
use Rattle.run.specs.declared.head.Head.{Head}
use Rattle.run.specs.Chosen.{Prepared}
use Rattle.run.proofs.Filling.{fresh_made}
use Rattle.run.proofs.Threads.{dest_small, first_fits, setting, first_togo, first_written}
use Rattle.run.proofs.steps.steps.Goals as goal

pub fill-requires-clause-room : goal.fill-requires-clause-room
fill-requires-clause-room c =
    let K = c.prepare.ensures.prepared in (K.size, dest_small c.requires.chosen.low K c.start_of-from.ensures)

pub fill-requires-clause-fresh : goal.fill-requires-clause-fresh
fill-requires-clause-fresh c = fresh_made

pub from_head-requires-clause-fits : goal.from_head-requires-clause-fits
from_head-requires-clause-fits c =
    let K = subst (Prepared c.args.side.now c.args.v c.prepare.new.table) (sym c.fill.ensures.plan) c.prepare.ensures.prepared in
    first_fits c.requires.chosen.low K c.start_of-from.ensures

pub from_head-requires-clause-room : goal.from_head-requires-clause-room
from_head-requires-clause-room c = (ap (λ (h : Head). h.under) c.start_of-from.ensures.head, c.requires.chosen.most)

pub returns-clause-steps : goal.returns-clause-steps
returns-clause-steps c =
    let q = c.requires.chosen in
    let K = subst (Prepared c.args.side.now c.args.v c.prepare.new.table) (sym c.fill.ensures.plan) c.prepare.ensures.prepared in
    let S = c.start_of-from.ensures in
    let F = c.fill.ensures.filled in
    first_written q.low K S F (c.from_head.ensures (setting q.low K S F) (first_togo q.low K S F q.most q.least))
