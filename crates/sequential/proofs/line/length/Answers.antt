-- `length` meets its contract: what the parts of a line add up to.
use native.Mathlib.Omega.{arith}
use Rattle.std.proofs.Common.{rules}
use Rattle.sequential.proofs.Widths.{byte_few, length_rule}
use Rattle.sequential.proofs.line.length.Goals as goal

pub overflow_add-result-2 : goal.overflow_add-result-2
overflow_add-result-2 c =
    let few = c.args.r.from.few in
    let short = byte_few (search rules) c.digits_of.ensures in
    search rules

pub overflow_add-result-3 : goal.overflow_add-result-3
overflow_add-result-3 c =
    let few = c.args.r.from.few in
    let short = byte_few (search rules) c.digits_of.ensures in
    search rules

pub returns : goal.returns
returns c = omega (arith, length_rule c.args.r (search rules) (search rules), c.digits_of.ensures, c.new_length.ensures)
