-- The plan of a thread along a line is in range: its turn ends are of the line or 0, and its rules are the thread's, marked.
use mathlib.Core.List.{List, [], ◌∷◌}
use mathlib.Core.Path.{◌≡◌}
use Prim.Native.Nat.{ℕ, zero, suc, ◌≤◌, ◌<◌}
use native.Mathlib.Omega.{arith}
use Rattle.model.specs.declared.Rule.{Rule}
use Rattle.model.specs.declared.Thread.{Thread}
use Rattle.model.specs.Fits.{RuleFits, ThreadFits}
use Rattle.model.specs.Lines.{digits}
use Rattle.model.specs.declared.ThreadId.{ThreadId}
use Rattle.costs.specs.Ends.{ends_of}
use Rattle.run.specs.Plan.{end_by}
use Rattle.summary.specs.Cells.{controls_of}
use Rattle.summary.specs.Kinds.{RuleIn}
use Rattle.summary.proofs.Numbers.{rules_in_lem}
use Rattle.run.specs.declared.plan.Switch.{Switch}
use Rattle.run.specs.Marked.{switch_at, marked_at, marked_rule}

-- A thread whose states are below G, which is at most 4.
pub four_fits : {g : ℕ} {t : Thread} → g ≤ 4 → ThreadFits g t → ThreadFits 4 t
four_fits {g} four fits =
    record {
      symbols = fits.symbols;
      first = fits.first;
      top = fits.top;
      count = fits.count;
      rules = λ r h. rule (fits.rules r h);
      order = fits.order;
      free = fits.free;
      below = fits.below;
    }
  where
    rule : {r : Rule} → RuleFits g r → RuleFits 4 r
    rule f = record { state = omega arith; top = f.top; next = omega arith; symbols = f.symbols }

-- The marked rules of a thread stay within its controls.
pub rules_marked : {g controls : ℕ} {t : Thread} (rules : List Rule) → g ≤ 4 → ThreadFits g t → controls ≡ controls_of t g
    → ((r : ℕ) → r < t.count → marked_at rules r ≡ marked_rule t r)
    → (r : ℕ) → r < t.count → RuleIn controls (marked_at rules r).after.0 (marked_at rules r)
rules_marked rules four fits is same r h =
    let f = (rules_in_lem four fits).rules r h in
    rw (same r h, is) (record { from = f.from; to = f.to; top = f.top; symbols = f.symbols })

-- Both turn ends of a plan are below G ..
pub both_inside : {g : ℕ} {a b : Switch} → (a.leave < g) × (a.enter < g) → (b.leave < g) × (b.enter < g)
    → (j : ℕ) → j < 2 → ((switch_at (a ∷ b ∷ []) j).leave < g) × ((switch_at (a ∷ b ∷ []) j).enter < g)
both_inside p q zero h = p
both_inside p q (suc zero) h = q
both_inside p q (suc (suc j)) h = absurd (omega arith)

-- .. and are those of the line.
pub both_ends : (id : ThreadId) {g h len size value v : ℕ} {a b : Switch} → (h ≡ g) × (len ≡ size) × (value ≡ v)
    → end_by a ≡ ends_of id (digits h len value) 0 → end_by b ≡ ends_of id (digits h len value) 1
    → (j : ℕ) → j < 2 → end_by (switch_at (a ∷ b ∷ []) j) ≡ ends_of id (digits g size v) j
both_ends id line p q zero h = rw (line.0, line.1, line.2) at p
both_ends id line p q (suc zero) h = rw (line.0, line.1, line.2) at q
both_ends id line p q (suc (suc j)) h = absurd (omega arith)
