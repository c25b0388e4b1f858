-- `put` meets its contract: the fields one after another.
use Rattle.std.proofs.Common.{◌∙◌, rules}
use Rattle.writer.proofs.Outputs.{◌then◌}
use Rattle.batch.proofs.Listing.{flag_byte, two_bytes}
use Rattle.batch.proofs.bytes.put.Goals as goal

pub returns : goal.returns
returns c =
    let put = c.byte.ensures then c.bytes.ensures then c.byte-2.ensures then c.bytes-2.ensures in
    let steps = c.to_le_bytes.ensures ∙ two_bytes _ (search rules) in
    let place = c.to_le_bytes-2.ensures ∙ two_bytes _ (search rules) in
    rw (steps, place, c.from.ensures, flag_byte) at put
