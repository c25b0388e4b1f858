-- A part of a model: one whose rules all stand in the other, held as they are there, with all else the same. And what the verdict on a part
-- says of the whole.
use Rattle.std.specs.Prelude.{◌≡◌, ℕ, ◌≤◌, ◌<◌}
use Rattle.model.specs.declared.Model.{Model}
use Rattle.model.specs.declared.Thread.{Thread}
use Rattle.model.specs.Rules.{rule_at, held_at}
use Rattle.model.specs.Verdict.{clear, long, found, Judged}

-- Rule r of a thread stands in another's list, as a rule with a number of its own there, and is held there exactly if it is here.
pub record StandsIn (u t : Thread) (r : ℕ) : Type 0 where
  pub number : ℕ
  pub listed : number < u.count
  pub rule : rule_at u number ≡ rule_at t r
  pub held : held_at u number ≡ held_at t r

-- A thread is a part of another: the same symbol count, first symbol and top, and each of its rules stands there.
pub record ThreadPart (t u : Thread) : Type 0 where
  pub symbols : t.symbols ≡ u.symbols
  pub first : t.first ≡ u.first
  pub top : t.top ≡ u.top
  pub rules : (r : ℕ) → r < t.count → StandsIn u t r

-- A model is a part of another: the same head, and each of its threads is a part of the other's.
pub record Part (m whole : Model) : Type 0 where
  pub g : m.g ≡ whole.g
  pub k : m.k ≡ whole.k
  pub start : m.start ≡ whole.start
  pub target : m.target ≡ whole.target
  pub a : ThreadPart m.a whole.a
  pub b : ThreadPart m.b whole.b

-- What the verdict on a part says of the whole: Found in n steps there is Found in n or fewer here, and Long there is never Clear here.
pub record Carries (m whole : Model) : Type 0 where
  pub found : (n : ℕ) → Judged m (found n) → (k : ℕ) × (k ≤ n) × Judged whole (found k)
  pub long : Judged m long → Judged whole clear → ⊥
