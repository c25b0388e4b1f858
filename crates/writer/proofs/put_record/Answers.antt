-- `put_record` meets its contract: the head and the rules of both threads, put one after another, are the record.
use Rattle.std.proofs.Common.{rules}
use Rattle.writer.specs.Writer.{record_of}
use Rattle.writer.proofs.Outputs.{◌then◌, lent}
use Rattle.writer.proofs.put_record.Goals as goal

pub returns : goal.returns
unfolding record_of
returns c =
    let put = c.put_head.ensures then c.put_rules.ensures then c.put_rules-2.ensures in
    lent c.new-out.ensures put (search rules)
