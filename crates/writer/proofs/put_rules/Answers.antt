use Rattle.std.proofs.Common.{rules}
use mathlib.Core.Path.{◌≡◌}
use native.Mathlib.Omega.{arith}
use lib.ListN.{length, length-append}
use lib.Seq.{length-take-le}
use Prim.Native.Nat.{◌<◌}
use Rattle.std.proofs.lemmas.List.{get_or-take, take_all}
use Rattle.model.proofs.Checks.{length_mapped}
use Rattle.writer.specs.Writer.{rules_of, rule_list_of}
use Rattle.writer.proofs.Puts.{one_more, among}
use Rattle.writer.proofs.Outputs.{nothing, ◌then◌}
use Rattle.writer.proofs.put_rules.Goals as goal

pub loop-rule-init : goal.loop-rule-init
unfolding rule_list_of
loop-rule-init c = nothing _

pub put_rule-requires : goal.put_rule-requires
unfolding rules_of
put_rule-requires c =
    let full : length c.args.t.rules ≡ 64 = search (length_mapped, rules) in
    let size = length-take-le c.args.t.count c.args.t.rules (omega arith) in
    let more : c.loop-rule.rule-index < c.args.t.count = omega arith in
    let all = simp length-append at c.requires.1 in
    let some = among _ _ c.loop-rule-test.true in
    (rw get_or-take (c.requires.0.halves _ more), omega arith)

pub loop-rule-preserved : goal.loop-rule-preserved
loop-rule-preserved c = rw (one_more _ _ c.loop-rule-test.true) (c.loop-rule.invariant then c.put_rule.ensures)

pub returns : goal.returns
unfolding rules_of
returns c =
    let every = rw (take_all _ _ c.loop-rule-test.false) at c.loop-rule.invariant in c.field.ensures then every
