-- `write` meets its contract: each thread's first run along the line, merged by turn.
use native.Mathlib.Omega.{arith}
use Rattle.witness.proofs.Whole.{fronts_fit, stored_size, written}
use Rattle.witness.proofs.write.Goals as goal

pub write_one-requires-clause-chosen : goal.write_one-requires-clause-chosen
write_one-requires-clause-chosen c =
    let q = c.requires.chosen in
    record { low = q.low; cost = q.a; most = omega (arith, q.most) }

pub write_one-requires-2-clause-chosen : goal.write_one-requires-2-clause-chosen
write_one-requires-2-clause-chosen c =
    let q = c.requires.chosen in
    record { low = q.low; cost = q.b; most = omega (arith, q.most) }

pub merge-requires : goal.merge-requires
merge-requires c =
    let a = c.args in
    let most = c.requires.chosen.most in
    fronts_fit _ _ a.x a.y (omega (arith, most, stored_size c.write_one.ensures.first))
    (omega (arith, most, stored_size c.write_one-2.ensures.first)) most c.requires.room

pub returns-clause-first : goal.returns-clause-first
returns-clause-first c =
    let most = c.requires.chosen.most in
    written _ _ c.requires.fits.k.0 c.requires.chosen c.write_one.ensures.first c.write_one-2.ensures.first (omega (arith, most))
    (omega (arith, most)) c.merge.ensures
