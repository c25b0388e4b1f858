-- The front of a store of bytes 0xEE is a smaller one.
use Rattle.std.proofs.Common.{◌-◌, ◌≤◌, IsTrue, length, arith}
use Rattle.std.proofs.lemmas.List.{take-replicate}
use Rattle.vectors.proofs.stores.fits.Goals as goal

pub returns-then-puts-clause-exact : goal.returns-then-puts-clause-exact
returns-then-puts-clause-exact g c =
    let h = c.puts.ensures in
    let here = rw (take-replicate _ _ _ c.if-n.false) at h.1 in
    λ (yes : IsTrue c.puts-then-puts.result). (h.0, c.puts.new.store, here, cc (h.2, c.if-puts.true))

pub returns-then-puts-clause-less : goal.returns-then-puts-clause-less
returns-then-puts-clause-less g c =
    let h = c.puts-then-puts.ensures in
    let within : length c.args.front.now - 1 ≤ g.row.N = omega (arith, c.if-n.false) in
    let here = rw (take-replicate _ _ _ within) at h.1 in
    λ (yes : IsTrue c.puts-then-puts.result). (h.0, c.puts-then-puts.new.store, here, cc (h.2, yes))
