-- `put_stack` meets its contract: the digits of the topmost symbols, and blanks in the columns that are left. The invariant: the digits of the
-- i topmost symbols have been put.
use mathlib.Core.List.{map}
use lib.ListN.{take}
use Rattle.walk.specs.Stack.{top_first}
use Rattle.writer.specs.Output.{Appends}
use Rattle.page.specs.Page.{hex_digit}
use Rattle.page.proofs.line.put_stack.Given as goal

abbrev pub invariant-loop-i : goal.invariant-loop-i
invariant-loop-i l = Appends l.initial.out l.out (map hex_digit (take l.i (top_first l.depth l.stack)))
