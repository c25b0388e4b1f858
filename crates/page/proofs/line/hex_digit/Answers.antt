-- `hex_digit` meets its contract: the test is the definition's.
use mathlib.Core.Path.{refl}
use native.Mathlib.Omega.{arith}
use borrow.Author.Tests.{lt-ltb, le-ltb}
use Rattle.page.specs.Page.{hex_digit}
use Rattle.page.proofs.line.hex_digit.Goals as goal

pub returns-then-digit-lt10 : goal.returns-then-digit-lt10
unfolding hex_digit
returns-then-digit-lt10 c = rw (lt-ltb _ _ c.if-digit-lt10.true) refl

pub returns-else-digit-lt10 : goal.returns-else-digit-lt10
unfolding hex_digit
returns-else-digit-lt10 c = rw (le-ltb _ _ c.if-digit-lt10.false) (omega arith)
