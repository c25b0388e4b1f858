-- `put_new` meets its contract: no symbol, one, or one and then the other.
use native.Mathlib.Omega.{arith}
use lib.ListN.{length-append}
use Rattle.sequential.specs.Text.{symbols_text}
use Rattle.sequential.proofs.Widths.{two_symbols}
use Rattle.writer.proofs.Outputs.{nothing, ◌then◌}
use Rattle.sequential.proofs.line.put_new.Goals as goal

pub put_symbol-requires-in-Push : goal.put_symbol-requires-in-Push
put_symbol-requires-in-Push c =
    let room = rw (c.in-Push.is, two_symbols) at c.requires in
    omega (arith, simp length-append at room)

pub put_symbol-requires-in-Push-2 : goal.put_symbol-requires-in-Push-2
put_symbol-requires-in-Push-2 c =
    let room = rw (c.in-Push.is, two_symbols) at c.requires in
    omega (arith, simp length-append at room)

pub returns-in-Remove : goal.returns-in-Remove
unfolding symbols_text
returns-in-Remove c = rw c.in-Remove.is (nothing _)

pub returns-in-Push : goal.returns-in-Push
returns-in-Push c = rw (c.in-Push.is, two_symbols) (c.put_symbol-in-Push.ensures then c.put_symbol-in-Push-2.ensures)
