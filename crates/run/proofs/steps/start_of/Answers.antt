-- `start_of` meets its contract: the line's states are read off its value.
use Rattle.run.proofs.Threads.{starts}
use Rattle.run.proofs.steps.start_of.Goals as goal

pub returns : goal.returns
returns c =
    starts c.args.side.now c.args.v c.line-line.ensures c.stays_of.ensures.0 c.first_state.ensures.0 c.first_state.ensures.1 c.turn_of.ensures.0
    c.state.ensures.0 c.state.ensures.1
