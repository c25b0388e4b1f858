-- The model of an accepted record is valid, so its thread may be solved.
use Rattle.std.proofs.Common.{rules}
use Rattle.summary_vectors.proofs.Accepted.{accepted_fits, roomy}
use Rattle.summary_vectors.proofs.closed.Goals as goal

pub new-requires : goal.new-requires
new-requires g c =
    let z = accepted_fits c.read.result c.in-Ok.m _ c.in-Ok.is c.read.ensures.kept in
    (z.0, z.1, tt, z.2)

pub close_plain-requires : goal.close_plain-requires
close_plain-requires g c = roomy c.new.result.th c.new.result.four (search rules)
