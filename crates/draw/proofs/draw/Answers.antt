use mathlib.Core.Path.{refl, ◌∙◌}
use native.Mathlib.Omega.{arith}
use Rattle.draw.proofs.Written.{written_starts, written_steps, written_table, bits_counted}
use Rattle.draw.proofs.draw.Goals as goal

pub invariant_of-lines-clause-counted : goal.invariant_of-lines-clause-counted
invariant_of-lines-clause-counted c = c.line_bits.ensures ∙ bits_counted c.requires.fits

pub loop-at-init : goal.loop-at-init
loop-at-init c = written_starts _ _ _

pub loop-at-preserved : goal.loop-at-preserved
loop-at-preserved c = written_steps _ (omega arith) c.requires.room c.byte.ensures c.loop-at.invariant

pub returns : goal.returns
returns c = written_table _ _ _ c.requires.fits.k.0 c.requires.costs refl (omega arith) c.loop-at.invariant
