use mathlib.Core.Path.{◌≡◌}
use Rattle.std.proofs.Common.{rules}
use Rattle.std.specs.Prelude.{Err}
use Rattle.batch.proofs.Counting.{taken, fewer, goes_on, refuses_here, ends_here}
use Rattle.batch.proofs.whole.count.Goals as goal

pub returns-in_err-found : goal.returns-in_err-found
returns-in_err-found c =
    let refused : c.from_residual.result ≡ Err c.in_err-found.field-0.0 = search rules in
    rw refused (refuses_here c.loop-found.invariant c.in_err-found.ensures.answer)

pub loop-found-smaller : goal.loop-found-smaller
loop-found-smaller c =
    let told = c.in_ok-found.ensures in
    fewer (taken _ c.in-Some.found (rw c.in-Some.is at told.answer) (rw c.in-Some.is at told.stands))

pub loop-found-preserved : goal.loop-found-preserved
loop-found-preserved c =
    let told = c.in_ok-found.ensures in
    goes_on c.loop-found.invariant (taken _ c.in-Some.found (rw c.in-Some.is at told.answer) (rw c.in-Some.is at told.stands))

pub returns : goal.returns
returns c = ends_here c.loop-found.invariant (rw c.in_default.is at c.in_ok-found.ensures.answer)
