-- A line is marked exactly if both threads can follow the full line that stands for it: padding keeps marks, a run is both
-- views, and a cost of at most 4,096 says that there is a view.
use mathlib.Core.List.{List, [], ◌∷◌, ◌++◌}
use mathlib.Core.Logic.Iff
use mathlib.Core.Logic.{◌↔◌}
use mathlib.Core.Path.{◌≡◌, refl, subst}
use Prim.Native.Nat.{ℕ, zero, suc, ◌-◌, ◌*◌, ◌^◌, ◌≤◌, ◌<◌}
use native.Mathlib.Omega.{arith}
use lib.ListN.{length, get_or, replicate, length-append, length-replicate}
use Rattle.model.specs.declared.Model.{Model}
use Rattle.model.specs.Lines.{States, Line, last_of, value, digits}
use Rattle.model.specs.Runs.{Marked}
use Rattle.model.specs.declared.ThreadId.{ThreadId}
use Rattle.model.specs.declared.ThreadId.TheVariants.{A, B}
use Rattle.model.specs.Tops.{Top}
use Rattle.std.specs.Prelude.{None}
use Rattle.model.proofs.Positions.{value_below, length_digits, digits_value}
use Rattle.model.proofs.Turns.{marked_padded}
use Rattle.summary.specs.Table.{cap}
use Rattle.costs.specs.Cost.{ViewCost, CostsOf, BothCosts}
use Rattle.costs.proofs.Along.{view_cost}
use Rattle.costs.proofs.Views.{marked_views}
use Rattle.draw.specs.Marks.{padded}

-- A line is marked exactly if both costs are reached.
marked_costs : (m : Model) (line : List ℕ) {a b : ℕ}
    → ViewCost m A None line a → ViewCost m B None line b → Marked m line ↔ ((a ≤ cap) × (b ≤ cap))
marked_costs m line p q = (
  λ r. let v = (marked_views line).0 r in ((p.least v.2).0, (q.least v.3).0),
  λ h. let v = p.some h.0 in let w = q.some h.1 in (marked_views line).1 (v.0, w.0, v.1, w.1),
)

-- The last state of a line that has one.
last_any : (p q : ℕ) (line : List ℕ) → 0 < length line → last_of p line ≡ last_of q line
last_any p q [] h = absurd (omega arith)
last_any p q (x ∷ line) h = refl

last_state_lem : (g q : ℕ) (line : List ℕ) → q < g → States g line → last_of q line < g
last_state_lem g q [] h s = h
last_state_lem g q (x ∷ line) h s = last_state_lem g x line s.0 s.1

last_low : (g q : ℕ) (line : List ℕ) → 0 < length line → States g line → last_of q line < g
last_low g q [] h s = absurd (omega arith)
last_low g q (x ∷ line) h s = last_state_lem g x line s.0 s.1

repeated : (g q n : ℕ) → q < g → States g (replicate n q)
repeated g q zero h = tt
repeated g q (suc n) h = (h, repeated g q n h)

states_append : (g : ℕ) (l r : List ℕ) → States g l → States g r → States g (l ++ r)
states_append g [] r s t = t
states_append g (x ∷ l) r s t = (s.0, states_append g l r s.1 t)

-- A padded line is a full line.
full_length : {g k : ℕ} {line : List ℕ} → Line g k line → length (padded k line) ≡ 2 * k
full_length l = rw (length-append, length-replicate) (omega (arith, l.most))

full_states : {g k : ℕ} {line : List ℕ} → Line g k line → States g (padded k line)
full_states {g} {k} {line} l =
    states_append g line (replicate (2 * k - length line) (last_of 0 line)) l.states
    (repeated g (last_of 0 line) (2 * k - length line) (last_low g 0 line l.some l.states))

-- A list of costs has, at the value of each full line, the least steps of the thread's views of that line.
pub line_cost_lem : (m : Model) (i : ThreadId) (top : Top) (costs : List ℕ) → 1 ≤ m.k → CostsOf m i top costs
    → (v : ℕ) → v < m.g ^ (2 * m.k) → ViewCost m i top (digits m.g (2 * m.k) v) (get_or costs v 0)
line_cost_lem m i top costs k c v h =
    let n : ℕ = m.k - 1 in
    let e : 2 * suc n ≡ 2 * m.k = omega arith in
    let low : v < m.g ^ (2 * suc n) = rw e h in
    rw e at ((view_cost m i top n (digits m.g (2 * suc n) v) _ (length_digits m.g (2 * suc n) v)).0 (c.along v low))

-- The same at a line of 2K states.
pub full_cost : (m : Model) (i : ThreadId) (top : Top) (costs : List ℕ) → 1 ≤ m.k → CostsOf m i top costs
    → (line : List ℕ) → length line ≡ 2 * m.k → States m.g line
    → (value m.g line < m.g ^ (2 * m.k)) × ViewCost m i top line (get_or costs (value m.g line) 0)
full_cost m i top costs k c line size states =
    let v : ℕ = value m.g line in
    let low : v < m.g ^ (2 * m.k) = subst (λ n. v < m.g ^ n) size (value_below m.g line states) in
    let same : digits m.g (2 * m.k) v ≡ line =
    subst (λ n. digits m.g n v ≡ line) size (digits_value m.g line states) in
    (low, subst (λ l. ViewCost m i top l (get_or costs v 0)) same (line_cost_lem m i top costs k c v low))

-- Both costs of the full line that stands for a line say whether the line is marked.
pub marked_full : (m : Model) (a b : List ℕ) → 1 ≤ m.k → BothCosts m None None a b → (line : List ℕ) → Line m.g m.k line
    → ((get_or a (value m.g (padded m.k line)) 0 ≤ cap) × (get_or b (value m.g (padded m.k line)) 0 ≤ cap)) ↔ Marked m line
marked_full m a b k c line l =
    let full : List ℕ = padded m.k line in
    let one = full_cost m A None a k c.0 full (full_length l) (full_states l) in
    let other = full_cost m B None b k c.1 full (full_length l) (full_states l) in
    let padding : Marked m line ↔ Marked m full =
    rw (last_any m.start.0 0 line l.some) at (marked_padded {m = m} (2 * m.k - length line) line) in
    let e = Iff.trans padding (marked_costs m full one.1 other.1) in
    (e.1, e.0)
