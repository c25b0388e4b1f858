-- `found` meets its contract: by whether the steps fit, and the part of the store behind those used is where they are put.
use mathlib.Core.Path.{refl, sym, ◌∙◌}
use Prim.Native.Nat.{◌*◌}
use native.Mathlib.Omega.{arith}
use Rattle.batch.proofs.Placing.{fits, fits_not, put_behind}
use Rattle.batch.proofs.one.found.Goals as goal

pub returns-then-used-steps-clause-told : goal.returns-then-used-steps-clause-told
returns-then-used-steps-clause-told c =
    c.unwritten.ensures ∙ sym (fits_not _ _ (omega arith))

pub returns-then-used-steps-clause-bytes : goal.returns-then-used-steps-clause-bytes
returns-then-used-steps-clause-bytes c =
    rw c.unwritten.ensures refl

pub returns-clause-told : goal.returns-clause-told
returns-clause-told c =
    let args = c.args in
    let fit = fits args.used args.steps (omega arith) in
    rw c.place.ensures (sym fit)

pub returns-clause-bytes : goal.returns-clause-bytes
returns-clause-bytes c =
    let args = c.args in
    put_behind args.store.now (2 * args.used) (2 * args.steps) args.schedule.now (omega arith) (omega arith)
    c.copy.ensures
