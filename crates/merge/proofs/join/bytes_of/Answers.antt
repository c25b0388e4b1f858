use Prim.Native.Nat.{◌*◌}
use native.Mathlib.Omega.{arith}
use Rattle.std.proofs.lemmas.List.FromFn.{fill_by_all}
use Rattle.merge.specs.Answer.{bits_from, bytes_from, flag_at}
use Rattle.merge.proofs.join.bytes_of.Goals as goal

pub returns : goal.returns
unfolding bytes_from
returns c =
    let all = c.loop-i.invariant in
    fill_by_all (λ k. bits_from (flag_at c.args.flags) (8 * k) 8) c.loop-i.bytes 8 0 all.0 (λ k h. all.1 k (omega arith))
