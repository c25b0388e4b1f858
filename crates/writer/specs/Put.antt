-- What the helpers of the writer ask and promise.
use Rattle.std.specs.Prelude.{List, ◌≡◌, ℕ, ◌+◌, ◌≤◌, ◌<◌, length}
use Rattle.std.proofs.lemmas.List.Edits.{sets}
use Rattle.model.specs.declared.Model.{Model}
use Rattle.model.specs.declared.Rule.{Rule}
use Rattle.model.specs.declared.Thread.{Thread}
use Rattle.model.specs.Rules.{rule_at}

-- The bytes stand from place i on, all else is as it was, and j is the place after them.
pub record Put (old new : List ℕ) (i j : ℕ) (bytes : List ℕ) : Type 0 where
  pub stored : new ≡ sets old i bytes
  pub ends : j ≡ i + length bytes

-- A rule's before state and symbol go into the halves of one byte.
abbrev pub Halves : Rule → Type 0
Halves r = (r.before.0 ≤ 15) × (r.symbol.0 ≤ 15)

-- A thread's count is in range, and its rules have such pairs.
pub record Small (t : Thread) : Type 0 where
  pub count : t.count ≤ 64
  pub halves : (r : ℕ) → r < t.count → Halves (rule_at t r)

-- A model's target state leaves bit 7 of its byte free, and both threads are small.
pub record SmallModel (m : Model) : Type 0 where
  pub target : m.target.0 < 128
  pub a : Small m.a
  pub b : Small m.b
