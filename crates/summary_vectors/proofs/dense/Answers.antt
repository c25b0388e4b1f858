-- The model of an accepted record is valid, so its thread may be solved.
use Rattle.summary_vectors.proofs.Accepted.{accepted_fits}
use Rattle.summary_vectors.proofs.dense.Goals as goal

pub new-requires : goal.new-requires
new-requires c =
    let z = accepted_fits c.read.result c.in-Ok.m _ c.in-Ok.is c.read.ensures.kept in
    (z.0, z.1, tt, z.2)
