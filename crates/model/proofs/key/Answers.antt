-- `key` meets its contract: each arm of the match adds the last three digits of its constructor.
use mathlib.Core.Path.{◌≡◌}
use native.Mathlib.Nat.{add-zero}
use Rattle.model.specs.declared.Right.TheVariants.{Remove}
use Rattle.model.specs.Order.{key_of, right_key}
use Rattle.std.proofs.Common.{rules}
use Rattle.model.proofs.key.Goals as goal

pub returns-in-Remove : goal.returns-in-Remove
unfolding key_of right_key
returns-in-Remove c = let e : c.args.r.right ≡ Remove = search rules in rw (e, add-zero)

pub returns-in-Swap : goal.returns-in-Swap
unfolding key_of right_key
returns-in-Swap c = rw c.in-Swap.is

pub returns-in-Push : goal.returns-in-Push
unfolding key_of right_key
returns-in-Push c = rw c.in-Push.is
