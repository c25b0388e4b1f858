-- `put` meets its contract: two bytes are stored one after the other.
use native.Mathlib.Numerals.{add-one}
use Rattle.witness.proofs.merge.put.Goals as goal

pub returns : goal.returns
returns c = simp add-one
