-- Ranges: every used place of a model is in range, and its rules ascend. That is what validity comes to (a law), place by place.
use Rattle.std.specs.Prelude.{false, ◌≡◌, ℕ, suc, ◌≤◌, ◌<◌}
use Rattle.model.specs.declared.Model.{Model}
use Rattle.model.specs.declared.Right.{Right}
use Rattle.model.specs.declared.Right.TheVariants.{Remove, Swap, Push}
use Rattle.model.specs.declared.Rule.{Rule}
use Rattle.model.specs.declared.Thread.{Thread}
use Rattle.model.specs.Tops.{Top}
use Rattle.std.specs.Prelude.{None, Some}
use Rattle.model.specs.Order.{key_of}
use Rattle.model.specs.Rules.{rule_at, held_at}

-- The symbols of a right side are below a limit ..
abbrev pub RightBelow : ℕ → Right → Type 0
RightBelow limit Remove = Unit {0}
RightBelow limit (Swap a) = a.0 < limit
RightBelow limit (Push a b) = (a.0 < limit) × (b.0 < limit)

-- .. and so is a top that is named.
abbrev pub TopBelow : ℕ → Top → Type 0
TopBelow limit None = Unit {0}
TopBelow limit (Some s) = s.0 < limit

-- Those of a right side are at most 15 ..
abbrev pub RightFits : Right → Type 0
RightFits x = RightBelow 16 x

-- .. and so is a top.
abbrev pub TopFits : Top → Type 0
TopFits x = TopBelow 16 x

-- A rule's states are below g and its symbols at most 15.
pub record RuleFits (g : ℕ) (r : Rule) : Type 0 where
  pub state : r.before.0 < g
  pub top : r.symbol.0 ≤ 15
  pub next : r.after.0 < g
  pub symbols : RightFits r.right

-- The symbols of a thread are below a limit, wherever one stands: the first, the top, and in each rule that before and the new ones.
pub record SymbolsBelow (limit : ℕ) (t : Thread) : Type 0 where
  pub first : t.first.0 < limit
  pub top : TopBelow limit t.top
  pub before : (r : ℕ) → r < t.count → (rule_at t r).symbol.0 < limit
  pub new : (r : ℕ) → r < t.count → RightBelow limit (rule_at t r).right

-- A thread's symbol count, first symbol, top, rule count and each of its rules are in range, its rules ascend, no rule number beyond its
-- list is held, and its symbols are below their count.
pub record ThreadFits (g : ℕ) (t : Thread) : Type 0 where
  pub symbols : (1 ≤ t.symbols) × (t.symbols ≤ 16)
  pub first : t.first.0 ≤ 15
  pub top : TopFits t.top
  pub count : t.count ≤ 64
  pub rules : (r : ℕ) → r < t.count → RuleFits g (rule_at t r)
  pub order : (r : ℕ) → suc r < t.count → key_of (rule_at t r) < key_of (rule_at t (suc r))
  pub free : (r : ℕ) → t.count ≤ r → r < 64 → held_at t r ≡ false
  pub below : SymbolsBelow t.symbols t

-- Every used place of a model is in range, and its rules ascend.
pub record Fits (m : Model) : Type 0 where
  pub g : (1 ≤ m.g) × (m.g ≤ 4)
  pub k : (1 ≤ m.k) × (m.k ≤ 3)
  pub start : m.start.0 < m.g
  pub target : m.target.0 < m.g
  pub a : ThreadFits m.g m.a
  pub b : ThreadFits m.g m.b
