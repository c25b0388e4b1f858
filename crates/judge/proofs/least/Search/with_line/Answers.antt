-- `with_line` meets its contract: by whether the line ends in the target, its costs add up, and a schedule was found before it.
use Prim.Native.Nat.{◌*◌, ◌≤◌}
use native.Mathlib.Omega.{arith}
use Rattle.std.proofs.Common.{rules}
use Rattle.draw.proofs.Refusals.{in_range}
use Rattle.judge.proofs.Adding.{line_chosen, adds-nothing, adds_elsewhere, adds_first, adds_taken, adds_left}
use Rattle.judge.proofs.Comparing.{copied}
use Rattle.judge.proofs.least.Search.with_line.Goals as goal
use Rattle.judge.proofs.least.Search.with_line.Goals.{then-v-self-via-then-v-self, then-v-self-via-else-v-self+then-x-y}

pub returns-then-v-self-clause-adds : goal.returns-then-v-self-clause-adds
returns-then-v-self-clause-adds c =
    elim c.then-v-self.branch [
      | then-v-self-via-then-v-self w ↦ adds_elsewhere w.if-v-self.true
      | then-v-self-via-else-v-self+then-x-y w ↦
          adds-nothing (in_range _ c.args.self.now.valid) c.requires.costs c.requires.judged (omega arith) w.if-v-self.false w.if-x-y.true
    ]

pub write-requires-clause-fits : goal.write-requires-clause-fits
write-requires-clause-fits c = in_range _ c.args.self.now.valid

pub write-requires-clause-chosen : goal.write-requires-clause-chosen
write-requires-clause-chosen c =
    line_chosen (in_range _ c.args.self.now.valid) c.requires.costs c.requires.judged (omega arith) c.if-x-y.false

pub returns-then-is_none-clause-adds : goal.returns-then-is_none-clause-adds
returns-then-is_none-clause-adds c =
    adds_first c.if-v-self.false c.if-x-y.false c.write.ensures.first (search rules)

pub write-requires-2-clause-fits : goal.write-requires-2-clause-fits
write-requires-2-clause-fits c = in_range _ c.args.self.now.valid

pub write-requires-2-clause-chosen : goal.write-requires-2-clause-chosen
write-requires-2-clause-chosen c =
    line_chosen (in_range _ c.args.self.now.valid) c.requires.costs c.requires.judged (omega arith) c.if-x-y.false

pub returns-then-comes_before-clause-adds : goal.returns-then-comes_before-clause-adds
returns-then-comes_before-clause-adds c =
    let n = c.args.self.now.steps in
    let most : n ≤ 4095 = c.requires.judged.0 in
    adds_taken c.if-v-self.false c.if-x-y.false c.write-2.ensures.first (search rules) (omega arith)
    (rw c.if-comes_before.true at c.comes_before.ensures)
    (rw c.copy_from_slice.ensures.after (copied c.args.schedule.now c.write-2.new.schedule (2 * n) (omega arith) (omega arith)))

pub returns-else-comes_before-clause-adds : goal.returns-else-comes_before-clause-adds
returns-else-comes_before-clause-adds c =
    let most : c.args.self.now.steps ≤ 4095 = c.requires.judged.0 in
    adds_left c.if-x-y.false c.write-2.ensures.first (search rules) (omega arith)
    (rw c.if-comes_before.false at c.comes_before.ensures)
