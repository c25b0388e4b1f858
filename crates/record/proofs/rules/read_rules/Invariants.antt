-- `read_rules` meets its contract. The invariant: the rules read so far stand before those still to come, whose keys are at least `least`.
use Rattle.record.specs.Reader.{parse_rules}
use Rattle.record.proofs.Lists.{Progress}
use Rattle.record.proofs.rules.read_rules.Given as goal

abbrev pub invariant-loop-i : goal.invariant-loop-i
invariant-loop-i l = Progress (parse_rules l.present l.g l.part) l.g l.n l.i l.least l.rules l.reader
