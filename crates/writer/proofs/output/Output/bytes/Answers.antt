-- `bytes` meets its contract: the part of the store that it writes over has the bytes.
use Rattle.std.proofs.Common.{refl}
use Rattle.writer.proofs.Outputs.{covers}
use Rattle.writer.proofs.output.Output.bytes.Goals as goal

pub returns : goal.returns
returns c = covers _ _ _ _ c.copy_from_slice.ensures.after refl c.requires
