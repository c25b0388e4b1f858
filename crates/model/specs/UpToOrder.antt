-- Models that agree up to the order of their rules: equal fields, the same set of rules in each thread, and the same of them held. A rule
-- is a value here, not a place in a list.
use Rattle.std.specs.Prelude.{true, ◌↔◌, ◌≡◌, ℕ, ◌<◌}
use Rattle.model.specs.declared.Model.{Model}
use Rattle.model.specs.declared.Rule.{Rule}
use Rattle.model.specs.declared.Thread.{Thread}
use Rattle.model.specs.Bits.{Bytes}
use Rattle.model.specs.Rules.{rule_at, held_at}

-- A rule of a thread, with its number there.
pub record RuleOf (t : Thread) (x : Rule) : Type 0 where
  pub number : ℕ
  pub listed : number < t.count
  pub is : rule_at t number ≡ x

-- A rule of a thread that is held.
pub record HeldRuleOf (t : Thread) (x : Rule) : Type 0 where
  pub rule : RuleOf t x
  pub held : held_at t rule.number ≡ true

-- Two threads have equal fields, the same rules, and the same rules held.
pub record SameSet (t u : Thread) : Type 0 where
  pub symbols : t.symbols ≡ u.symbols
  pub first : t.first ≡ u.first
  pub top : t.top ≡ u.top
  pub rules : (x : Rule) → RuleOf t x ↔ RuleOf u x
  pub held : (x : Rule) → HeldRuleOf t x ↔ HeldRuleOf u x

-- The same of both threads of two models, whose other fields are equal.
pub record UpToOrder (m n : Model) : Type 0 where
  pub g : m.g ≡ n.g
  pub k : m.k ≡ n.k
  pub start : m.start ≡ n.start
  pub target : m.target ≡ n.target
  pub a : SameSet m.a n.a
  pub b : SameSet m.b n.b

-- The marks of a model are bytes, as those of every model handed in are.
pub record ByteMarks (m : Model) : Type 0 where
  pub a : Bytes m.a.held
  pub b : Bytes m.b.held
