-- `new_length` meets its contract: the digits of each symbol, and a blank before it.
use native.Mathlib.Omega.{arith}
use Rattle.std.proofs.Common.{rules}
use Rattle.sequential.proofs.Widths.{byte_few, length_none, length_one, length_two}
use Rattle.sequential.proofs.line.new_length.Goals as goal

pub overflow_add-result : goal.overflow_add-result
overflow_add-result c = let short = byte_few (search rules) c.digits_of.ensures in search rules

pub overflow_add-result-in-Push : goal.overflow_add-result-in-Push
overflow_add-result-in-Push c = let short = byte_few (search rules) c.digits_of-in-Push.ensures in search rules

pub overflow_add-result-in-Push-2 : goal.overflow_add-result-in-Push-2
overflow_add-result-in-Push-2 c =
    let first = byte_few (search rules) c.digits_of-in-Push.ensures in
    let second = byte_few (search rules) c.digits_of-in-Push-2.ensures in
    search rules

pub returns-in-Remove : goal.returns-in-Remove
returns-in-Remove c = (rw (c.in-Remove.is, length_none), omega arith)

pub returns-in-Swap : goal.returns-in-Swap
returns-in-Swap c =
    let short = byte_few (search rules) c.digits_of.ensures in
    (rw (c.in-Swap.is, length_one, c.digits_of.ensures), omega arith)

pub returns-in-Push : goal.returns-in-Push
returns-in-Push c =
    let first = byte_few (search rules) c.digits_of-in-Push.ensures in
    let second = byte_few (search rules) c.digits_of-in-Push-2.ensures in
    (rw (c.in-Push.is, length_two, c.digits_of-in-Push.ensures, c.digits_of-in-Push-2.ensures), omega arith)
