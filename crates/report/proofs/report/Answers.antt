-- `report` meets its contract: a store that is too short stays as it was, and into any other the text is put.
use mathlib.Core.Path.{refl}
use native.Mathlib.Omega.{arith}
use Rattle.std.proofs.Common.{rules}
use Rattle.writer.proofs.Outputs.{lent}
use Rattle.report.specs.Prints.{text, short}
use Rattle.report.proofs.Putting.{held}
use Rattle.report.proofs.report.Goals as goal

pub returns-then-store-lt-TEXT_ROOM-clause-text : goal.returns-then-store-lt-TEXT_ROOM-clause-text
returns-then-store-lt-TEXT_ROOM-clause-text c = short c.if-store-lt-TEXT_ROOM.true refl refl

pub returns-clause-text : goal.returns-clause-text
returns-clause-text c =
    let told = c.put_report.ensures in
    text c.if-store-lt-TEXT_ROOM.false (held told.kind (lent c.new-out.ensures told.put (search rules)) (omega arith))
