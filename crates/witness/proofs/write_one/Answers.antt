-- `write_one` meets its contract: a table that is known to be solved for the line's first turn end is so.
use Rattle.run.specs.Base.{SolvedFor}
use Rattle.witness.specs.Solves.{SameEnd}
use Rattle.witness.proofs.Whole.{to_side, from_side, known_solved_if_line, chosen_for}
use Rattle.witness.proofs.write_one.Goals as goal

pub steps-requires-clause-chosen : goal.steps-requires-clause-chosen
steps-requires-clause-chosen c = chosen_for _ _ c.requires.fits c.side_for-side.ensures c.requires.chosen

pub same_end-known-requires : goal.same_end-known-requires
same_end-known-requires c = (chosen_for _ _ c.requires.fits c.side_for-side.ensures c.requires.chosen).low

pub steps-requires-clause-known : goal.steps-requires-clause-known
steps-requires-clause-known c =
    let a = c.args in
    let s = c.side_for-side.ensures in
    λ e. to_side s (λ t g top i n q. SolvedFor t top i g n a.v a.table.now)
    (known_solved_if_line (from_side s (λ t g top i n q. SameEnd i g n a.last a.v) (c.same_end-known.ensures e)) c.requires.solved)
