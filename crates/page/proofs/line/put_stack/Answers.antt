use native.Mathlib.Nat.{le_antisymm}
use native.Mathlib.Omega.{arith}
use Prim.Native.Nat.{ℕ, ◌-◌}
use Rattle.std.proofs.lemmas.List.{length-replicate}
use Rattle.walk.specs.Stack.{top_first}
use Rattle.writer.proofs.Outputs.{◌then◌}
use Rattle.page.proofs.Shown.{length_digits, symbol_next, stack_shown}
use Rattle.page.proofs.Widths.{length_stack}
use Rattle.page.proofs.line.put_stack.Goals as goal

pub byte-requires : goal.byte-requires
byte-requires c =
    let depth = c.args.depth in
    let size = length_stack (top_first depth c.args.stack.now) in
    omega (arith, c.requires, c.min-shown.ensures, length_digits c.loop-i.i depth c.args.stack.now (omega (arith, c.min-shown.ensures)))

pub loop-i-preserved : goal.loop-i-preserved
loop-i-preserved c =
    rw (symbol_next c.args.depth c.args.stack.now c.loop-i.i _ (omega (arith, c.min-shown.ensures)) c.hex_digit.ensures)
    (c.loop-i.invariant then c.byte.ensures)

pub repeat-requires : goal.repeat-requires
repeat-requires c =
    let depth = c.args.depth in
    let size = length_stack (top_first depth c.args.stack.now) in
    omega (arith, length-replicate {A = ℕ} (28 - c.min-shown.result) 32, c.requires, c.min-shown.ensures, length_digits c.loop-i.i depth c.args.stack.now (omega (arith, c.min-shown.ensures)))

pub returns : goal.returns
returns c =
    let every = rw (le_antisymm c.loop-i.auto.i-end c.loop-i-test.false) at c.loop-i.invariant in
    rw (stack_shown c.args.depth c.args.stack.now, ← c.min-shown.ensures) (every then c.repeat.ensures)
