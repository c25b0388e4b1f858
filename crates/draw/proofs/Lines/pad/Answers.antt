use mathlib.Core.Path.{◌≡◌}
use Prim.Native.Nat.{ℕ, ◌*◌, ◌≤◌}
use native.Mathlib.Nat.{mod-lt}
use native.Mathlib.Omega.{arith}
use Rattle.draw.proofs.Full.{Padding, padding_starts, padding_steps, padding_ends, padding_small, product_small}
use Rattle.draw.proofs.Lines.pad.Goals as goal

-- What a turn multiplies is small.
small : {g k size short i v : ℕ} → g ≤ 4 → k ≤ 3 → i ≤ 2 * k → Padding g size short i v → v * g ≤ 16384
small four three below padding =
    let v = padding_small four (omega (arith, below, three)) padding in
    product_small (omega (arith, v)) four

pub loop-init : goal.loop-init
loop-init c = padding_starts _ _ _ c.requires.2

pub overflow_mul-v : goal.overflow_mul-v
overflow_mul-v c =
    omega (arith, small c.args.self.four c.args.self.three (omega arith) c.loop.invariant)

pub overflow_add-v : goal.overflow_add-v
overflow_add-v c =
    omega (arith, small c.args.self.four c.args.self.three (omega arith) c.loop.invariant, mod-lt c.args.short c.args.self.some_states)

pub loop-preserved : goal.loop-preserved
loop-preserved c = padding_steps c.args.self.some_states c.loop.invariant

pub returns : goal.returns
returns c =
    let e : c.loop.counter ≡ 2 * c.args.self.k = omega arith in
    let d = rw e at c.loop.invariant in (
      padding_ends _ _ c.args.self.some_states c.requires.0 c.requires.2 d,
      padding_small c.args.self.four (omega arith) d,
    )
