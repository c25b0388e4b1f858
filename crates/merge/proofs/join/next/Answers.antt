-- `next` meets its contract: where one list is at its end the other has the next rule, and else the keys decide.
use native.Mathlib.Omega.{arith}
use Rattle.merge.proofs.Along.{left, right, one}
use Rattle.merge.proofs.join.next.Goals as goal

pub returns-then-t-i : goal.returns-then-t-i
returns-then-t-i c =
    let pre = c.requires in
    rw c.alone.ensures (right _ _ pre.0 pre.1 _ _ pre.2 pre.3 (omega arith) (λ l. absurd (omega arith)))

pub returns-then-u-j : goal.returns-then-u-j
returns-then-u-j c =
    let pre = c.requires in
    rw c.alone-then-u-j.ensures (left _ _ pre.0 pre.1 _ _ pre.2 pre.3 (omega arith) (λ l. absurd (omega arith)))

pub returns-then-x-y : goal.returns-then-x-y
returns-then-x-y c =
    let pre = c.requires in
    let lower = rw (c.key-x.ensures, c.key-y.ensures) at c.if-x-y.true in
    rw c.alone-then-x-y.ensures (left _ _ pre.0 pre.1 _ _ pre.2 pre.3 c.if-t-i.false (λ l. lower))

pub returns-then-y-x : goal.returns-then-y-x
returns-then-y-x c =
    let pre = c.requires in
    let lower = rw (c.key-x.ensures, c.key-y.ensures) at c.if-y-x.true in
    rw c.alone-then-y-x.ensures (right _ _ pre.0 pre.1 _ _ pre.2 pre.3 c.if-u-j.false (λ l. lower))

pub returns-else-y-x : goal.returns-else-y-x
returns-else-y-x c =
    let pre = c.requires in
    rw c.shared.ensures
    (one _ _ pre.0 pre.1 _ _ pre.2 pre.3 c.if-t-i.false c.if-u-j.false
    (omega (arith, c.key-x.ensures, c.key-y.ensures)))
