-- `put_rules` meets its contract. The invariant: since the loop began, the first rules have been put, as many as it has come past.
use lib.ListN.{take}
use Rattle.writer.specs.Output.{Appends}
use Rattle.writer.specs.Writer.{rule_list_of}
use Rattle.writer.proofs.put_rules.Given as goal

abbrev pub invariant-loop-rule : goal.invariant-loop-rule
invariant-loop-rule l = Appends l.initial.out l.out (rule_list_of (take l.rule-index l.rule-items))
