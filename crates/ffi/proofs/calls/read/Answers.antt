-- `read` meets its contract: what reading comes to decides the number.
use Rattle.ffi.proofs.Records.{read_answered}
use Rattle.ffi.proofs.calls.read.Goals as goal

pub returns : goal.returns
returns c = rw c.and.ensures (read_answered _ c.read.result c.read.ensures.answer c.read.ensures.kept)
