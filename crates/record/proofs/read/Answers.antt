-- `read` meets its contract. What it keeps is the laws' of the definitions alone.
use native.Mathlib.Omega.{arith}
use Rattle.record.proofs.Fronts.{read_whole}
use Rattle.record.proofs.Records.{keeps}
use Rattle.record.proofs.read.Goals as goal

pub returns-clause-kept : goal.returns-clause-kept
returns-clause-kept c =
    let bytes = c.args.bytes.now in
    keeps bytes (omega (arith, c.type_inv.bytes 0)) (read_whole bytes c.in_ok-found.ensures c.in_ok-need.ensures)
