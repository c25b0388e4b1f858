-- The stack of a thread in a buffer: for each level its symbol, and for each place the least steps to the end with that symbol on top.
use Rattle.std.specs.Prelude.{Bool, true, false, Option, Some, None, List, [], ◌∷◌, ◌≡◌, ℕ, zero, suc, ◌+◌, ◌-◌, ◌*◌, ◌%◌, ◌≤◌, ◌<◌, get_or}
use Rattle.model.specs.declared.Right.{Right}
use Rattle.model.specs.declared.Right.TheVariants.{Remove, Swap, Push}
use Rattle.model.specs.declared.Rule.{Rule}
use Rattle.summary.specs.Control.{Control, numbered, InTable}
use Rattle.model.specs.Rules.{put}
use Rattle.run.specs.declared.head.Head.{Head}
use Rattle.run.specs.declared.head.Onward.{Onward}
use Rattle.run.specs.declared.head.Onward.TheVariants.{Done, One, Two}
use Rattle.run.specs.Plan.{rule_in}
use Rattle.run.specs.Exits.{place, exit_at, least_over, Togo, Setting, Runs}
use Rattle.run.specs.declared.plan.Plan.{Plan}

-- How many levels the buffer has: one for the empty stack, and one for each of 4,095 symbols that may lie under the top.
abbrev pub levels_size : ℕ
levels_size = 98304

-- The symbols of the lowest so many levels, the highest first.
abbrev pub below : List ℕ → ℕ → List ℕ
below symbols zero = []
below symbols (suc i) = get_or symbols (suc i) 0 ∷ below symbols i

-- What level i has for a place.
abbrev pub level_at : List ℕ → ℕ → ℕ → ℕ
level_at levels i x = get_or levels (24 * i + x) 0

-- The control of a head.
abbrev pub from : Head → Control
from h = numbered h.passed h.control

-- The whole stack of a head.
abbrev pub stack_of : List ℕ → Head → List ℕ
stack_of symbols h = h.symbol ∷ below symbols h.under

-- The head after the end of the turn, where the next one starts in state q.
abbrev pub entered_at : Head → ℕ → Head
entered_at h q = record { passed = h.passed + 1; control = q; symbol = h.symbol; under = h.under }

-- A head after a step by a rule, and the whole stack that the rule has left.
pub record Steps (symbols : List ℕ) (h : Head) (r : Rule) (next : Head) (left : List ℕ) : Type 0 where
  pub passed : next.passed ≡ h.passed
  pub control : next.control ≡ r.after.0
  pub symbol : next.symbol ≤ 16
  pub under : next.under ≤ h.under
  pub stack : put r.right (below symbols h.under) ≡ left

-- What is left after a step by a rule.
abbrev pub Goes : List ℕ → Head → Rule → Onward → Type 0
Goes symbols h r Done = put r.right (below symbols h.under) ≡ []
Goes symbols h r (One next) = Steps symbols h r next (stack_of symbols next)
Goes symbols h r (Two next b) = Steps symbols h r next (next.symbol ∷ b ∷ below symbols next.under) × (b ≤ 16)

-- What is left at control number c after the top symbol has gone.
abbrev pub Removes : List ℕ → Head → ℕ → Onward → Type 0
Removes symbols h c Done = h.under ≡ 0
Removes symbols h c (One next) =
    (0 < h.under)
    × (next
    ≡ record { passed = h.passed; control = c; symbol = get_or symbols h.under 0; under = h.under - 1 })
Removes symbols h c (Two next b) = ⊥

-- The least steps to the end with a symbol on top of a level, from a place.
abbrev pub over_level : List ℕ → List ℕ → ℕ → ℕ → ℕ → ℕ
over_level exits levels i γ x = least_over (exit_at exits x γ) (level_at levels i) 24

-- The same after a step to a place whose right side has come onto a level.
abbrev pub after_step : List ℕ → List ℕ → ℕ → ℕ → Right → ℕ
after_step exits levels i x Remove = level_at levels i x
after_step exits levels i x (Swap a) = over_level exits levels i a.0 x
after_step exits levels i x (Push a b) = least_over (exit_at exits x a.0) (over_level exits levels i b.0) 24

-- A rule of the plan that applies at a head and leaves one step fewer to the end.
pub record Tight (exits levels : List ℕ) (h : Head) (count : ℕ) (r : Rule) : Type 0 where
  pub state : r.before.0 ≡ h.control % 4
  pub symbol : r.symbol.0 ≡ h.symbol
  pub steps : after_step exits levels h.under (8 * h.passed + r.after.0) r.right ≡ count - 1

-- The first rule of the plan that is a tight step, or that there is none.
abbrev pub FirstTight : List ℕ → Plan → List ℕ → Head → ℕ → Option ℕ → Type 0
FirstTight exits plan levels h count (Some r) =
    (r < plan.count)
    × Tight exits levels h count (rule_in plan r)
    × ((i : ℕ) → i < r → Tight exits levels h count (rule_in plan i) → ⊥)
FirstTight exits plan levels h count None = (i : ℕ) → i < plan.count → Tight exits levels h count (rule_in plan i) → ⊥

-- The levels up to one are known: they say the truth for all controls of a turn and of those after it.
pub record Known {exits : List ℕ} {plan : Plan} (w : Setting exits plan) (levels symbols : List ℕ) (j top : ℕ) : Type 0 where
  pub at : (i : ℕ) → i ≤ top → (c : Control) → InTable plan.controls plan.n c → j ≤ c.passed
      → Togo (Runs w c (below symbols i)) (level_at levels i (place c))

-- A head in a setting whose levels are known, with so many steps to the end from a whole stack that is its own.
pub record Ready {exits : List ℕ} {plan : Plan} (w : Setting exits plan) (levels symbols : List ℕ) (h : Head) (stack : List ℕ) (count : ℕ) : Type 0 where
  pub known : Known w levels symbols h.passed h.under
  pub togo : Togo (Runs w (from h) stack) count

-- The numbers of a head are in range in a plan.
pub record HeadFits (plan : Plan) (h : Head) : Type 0 where
  pub passed : h.passed ≤ plan.n
  pub control : h.control < plan.controls
  pub symbol : h.symbol ≤ 16

-- An answer yes or no to whether something holds.
abbrev pub Decides : Bool → Type 0 → Type 0
Decides true P = P
Decides false P = P → ⊥
