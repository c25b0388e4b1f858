-- The kinds of edges that a pass over all rules relaxes.
use Rattle.std.specs.Prelude.{ℕ, ◌+◌, ◌*◌, ◌≤◌, ◌<◌}
use Rattle.model.specs.declared.Right.{Right}
use Rattle.model.specs.declared.Rule.{Rule}
use Rattle.model.specs.declared.Thread.{Thread}
use Rattle.model.specs.Fits.{RightFits}
use Rattle.model.specs.Rules.{rule_at}
use Rattle.summary.specs.declared.Kind.{Kind}
use Rattle.summary.specs.declared.Kind.TheVariants.{Plain, Lanes, Cross}
use Rattle.summary.specs.Sizes.{Sizes}
use Rattle.summary.specs.Cells.{first, part, second, size, flags_of, to_of, plain_by, lane_by, cross_by}
use Rattle.summary.specs.Edges.{Edge}

-- The edges of a kind of a rule from control p with γ on top to control h, by its right side.
abbrev pub RuleEdges : Kind → Sizes → ℕ → ℕ → ℕ → Right → Edge → Type 0
RuleEdges Plain sh = plain_by sh
RuleEdges (Lanes base) sh = lane_by sh base
RuleEdges (Cross l) sh = cross_by sh l

-- The part of a table of n controls starts no later than the last, and the lane is one of sixteen.
abbrev pub KindFits : ℕ → Kind → Type 0
KindFits n Plain = Unit {0}
KindFits n (Lanes base) = base ≤ second n
KindFits n (Cross l) = l < 16

-- Where the cells end that edges of a kind join.
abbrev pub part_end : ℕ → Kind → ℕ
part_end n Plain = first n
part_end n (Lanes base) = base + part n
part_end n (Cross l) = size n

-- A rule to control h stays within n controls, from each that has its before state.
pub record RuleIn (n h : ℕ) (r : Rule) : Type 0 where
  pub from : (f : ℕ) → f < flags_of n → 4 * f + r.before.0 < n
  pub to : h < n
  pub top : r.symbol.0 ≤ 15
  pub symbols : RightFits r.right

-- So does each rule of a thread.
pub record RulesIn (n : ℕ) (t : Thread) : Type 0 where
  pub count : t.count ≤ 64
  pub rules : (r : ℕ) → r < t.count → RuleIn n (to_of t r) (rule_at t r)
