-- `put_report` meets its contract: what reading comes to decides which text is put.
use native.Mathlib.Omega.{arith}
use Rattle.std.proofs.Common.{rules}
use Rattle.report.proofs.Putting.{says, as_kind}
use Rattle.report.proofs.Telling.{refused_short, acceptance, refusal}
use Rattle.report.proofs.put_report.Goals as goal

pub returns-in-Ok : goal.returns-in-Ok
returns-in-Ok c = as_kind (acceptance _ c.in-Ok.ensures.answer) c.put_verdict.ensures

pub put_line-requires : goal.put_line-requires
put_line-requires c = omega (arith, refused_short c.number.result (search rules))

pub returns-in-Err : goal.returns-in-Err
returns-in-Err c =
    let short = refused_short c.number.result (search rules) in
    says (rw c.number.ensures (refusal _ c.in-Err.ensures.answer)) c.put_line.ensures (omega arith)
