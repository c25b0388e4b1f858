-- `state` meets its contract: the value below one power, divided by the power before it.
use mathlib.Core.Path.{sym}
use native.Mathlib.Omega.{arith}
use Rattle.std.proofs.Common.{rules}
use Rattle.costs.proofs.Digits.{beyond, room, digit_by}
use Rattle.costs.proofs.parts.Line.state.Goals as goal

pub returns-then-self-j : goal.returns-then-self-j
returns-then-self-j c = (sym (beyond _ _ _ _ c.if-self-j.true), search rules)

pub nonzero_rem-result : goal.nonzero_rem-result
nonzero_rem-result c = omega (arith, (room _ c.args.self.some c.args.self.four c.power-p.ensures.0 c.power-p.ensures.1).1)

pub nonzero_div-result : goal.nonzero_div-result
nonzero_div-result c = omega (arith, (room _ c.args.self.some c.args.self.four c.power-p.ensures.0 c.power-p.ensures.1).0)

pub returns : goal.returns
returns c = digit_by c.args.self.some c.args.self.below c.if-self-j.false c.power-p.ensures.0
