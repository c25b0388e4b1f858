-- The rules of a plan, and what is in range in it. No definition here names the plan's type: its invariant cites them.
use Rattle.std.specs.Prelude.{Bool, List, ℕ, ◌*◌, ◌+◌, ◌≤◌, ◌<◌, get_or}
use Rattle.std.specs.Coded.{×_prop, Unit-prop, le_prop}
use Rattle.std.proofs.Props.{props}
use Rattle.model.specs.declared.Right.{Right}
use Rattle.model.specs.declared.Right.TheVariants.{Remove, Swap, Push}
use Rattle.model.specs.declared.Rule.{Rule}
use Rattle.model.specs.declared.Thread.{Thread}
use Rattle.model.specs.Fits.{RightFits}
use Rattle.model.specs.Rules.{zero_rule, rule_at, held_at}
use Rattle.summary.specs.Cells.{number_of, flags_of}
use Rattle.summary.specs.Kinds.{RuleIn}
use Rattle.run.specs.declared.plan.Switch.{Switch}

-- Number j of some turn ends.
abbrev pub switch_at : List Switch → ℕ → Switch
switch_at ends j = get_or ends j (record { leave = 0; enter = 0 })

-- Number r of some rules.
abbrev pub marked_at : List Rule → ℕ → Rule
marked_at rules r = get_or rules r zero_rule

-- A rule as a plan has it: in place of the state that it leads to stands the number of the control.
abbrev pub marked_by : Rule → Bool → Rule
marked_by r held =
    record {
      before = r.before;
      symbol = r.symbol;
      after = record { 0 = number_of held r.after.0 };
      right = r.right;
    }

-- Rule r of a thread as a plan has it.
abbrev pub marked_rule : Thread → ℕ → Rule
marked_rule t r = marked_by (rule_at t r) (held_at t r)

-- The numbers of a plan with g states, n turn ends and so many controls and rules are in range.
pub record InRange (g n controls count : ℕ) (ends : List Switch) (rules : List Rule) : Type 0 where
  pub four : g ≤ 4
  pub two : n ≤ 2
  pub some : g ≤ controls
  pub most : controls ≤ 8
  pub inside : (j : ℕ) → j < 2 → ((switch_at ends j).leave < g) × ((switch_at ends j).enter < g)
  pub low : count ≤ 64
  pub within : (r : ℕ) → r < count → RuleIn controls (marked_at rules r).after.0 (marked_at rules r)

-- A right side is in range in one way ..
right_prop : (x : Right) → IsProp (RightFits x)
right_prop Remove = Unit-prop
right_prop (Swap a) = le_prop
right_prop (Push a b) = ×_prop le_prop le_prop

-- .. a rule ..
rule_prop : (n h : ℕ) (r : Rule) → IsProp (RuleIn n h r)
rule_prop n h r x y =
    let from_prop : IsProp ((f : ℕ) → f < flags_of n → 4 * f + r.before.0 < n) = hlevel props in
    let to_prop : IsProp (h < n) = hlevel props in
    let top_prop : IsProp (r.symbol.0 ≤ 15) = hlevel props in
    λ i. record {
      from = from_prop x.from y.from i;
      to = to_prop x.to y.to i;
      top = top_prop x.top y.top i;
      symbols = right_prop r.right x.symbols y.symbols i;
    }

-- .. and a plan.
pub in_range_prop : (g n controls count : ℕ) (ends : List Switch) (rules : List Rule) → IsProp (InRange g n controls count ends rules)
in_range_prop g n controls count ends rules x y =
    let four_prop : IsProp (g ≤ 4) = hlevel props in
    let two_prop : IsProp (n ≤ 2) = hlevel props in
    let some_prop : IsProp (g ≤ controls) = hlevel props in
    let most_prop : IsProp (controls ≤ 8) = hlevel props in
    let inside_prop : IsProp ((j : ℕ) → j < 2 → ((switch_at ends j).leave < g) × ((switch_at ends j).enter < g)) = hlevel props in
    let low_prop : IsProp (count ≤ 64) = hlevel props in
    λ i. record {
      four = four_prop x.four y.four i;
      two = two_prop x.two y.two i;
      some = some_prop x.some y.some i;
      most = most_prop x.most y.most i;
      inside = inside_prop x.inside y.inside i;
      low = low_prop x.low y.low i;
      within = λ r h. rule_prop controls (marked_at rules r).after.0 (marked_at rules r) (x.within r h) (y.within r h) i;
    }
