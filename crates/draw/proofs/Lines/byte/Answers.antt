use native.Mathlib.Omega.{arith}
use Rattle.draw.proofs.Pack.{bit_small, packed_starts, packed_steps, packed_room, packed_byte}
use Rattle.draw.proofs.Lines.byte.Goals as goal

pub loop-p-init : goal.loop-p-init
loop-p-init c = (omega arith, packed_starts _ _)

pub overflow_mul-byte : goal.overflow_mul-byte
overflow_mul-byte c = omega (arith, packed_room {r = 0} (omega arith) (omega arith) c.loop-p.invariant.1)

pub overflow_add-byte : goal.overflow_add-byte
overflow_add-byte c = omega (arith, packed_room (omega arith) (bit_small c.bit.ensures) c.loop-p.invariant.1)

pub loop-p-preserved : goal.loop-p-preserved
loop-p-preserved c = (omega arith, packed_steps (omega arith) (omega arith) c.bit.ensures c.loop-p.invariant.1)

pub returns : goal.returns
returns c = packed_byte _ (omega arith) c.loop-p.invariant.1
