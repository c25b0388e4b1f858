-- The fewest steps over the lines are the least of all runs that reach the target: such a run goes along a full line that ends in the
-- target, its steps are both threads' views of that line, and two views of one line join to a run along it.
use mathlib.Core.List.{List}
use mathlib.Core.Path.{◌≡◌, refl, sym, ap, subst, ◌∙◌}
use Prim.Native.Nat.{ℕ, ◌+◌, ◌*◌, ◌%◌, ◌^◌, ◌≤◌, ◌<◌}
use native.Mathlib.Omega.{arith}
use lib.Dec.{T, eqb}
use lib.ListN.{length, get_or}
use Rattle.model.specs.declared.Model.{Model}
use Rattle.model.specs.Fits.{Fits}
use Rattle.model.specs.Lines.{last_of, value, digits}
use Rattle.model.specs.Runs.{Reaches, EndsUnder}
use Rattle.model.specs.Verdict.{clear, long, found, Judged}
use Rattle.model.specs.declared.ThreadId.TheVariants.{A, B}
use Rattle.model.specs.Walk.{under_tops, Step}
use Rattle.model.proofs.Inside.{inside}
use Rattle.model.proofs.Positions.{value_below, length_digits, digits_value}
use Rattle.model.proofs.Ranges.{valid_fits}
use Rattle.model.proofs.Tests.{both, equal}
use Rattle.model.proofs.Turns.{legal_full}
use Rattle.summary.specs.Table.{cap, capped, Least}
use Rattle.costs.specs.Cost.{TargetCosts}
use Rattle.draw.proofs.Full.{last_digits}
use Rattle.draw.proofs.Marks.{line_cost_lem}
use Rattle.costs.proofs.Views.{under_views, joined_under}
use Rattle.judge.specs.Best.{Open, Best}
use Rattle.judge.specs.Least.{AlongLine, AlongBelow}
use Rattle.model.specs.Schedules.{most_steps}

-- What a run that reaches the target has met: the target state, and the tops that are named.
pub target_met : {m : Model} {ss : List Step} (r : Reaches m ss) → (r.shared ≡ m.target.0) × T (under_tops m r.stacks)
target_met {m} r =
    let t = (both (eqb r.shared m.target.0) (under_tops m r.stacks)).0 r.target in
    ((equal r.shared m.target.0).0 t.0, t.1)

module _ {m : Model} where
  module _ (f : Fits m) where
    -- A run along a full line that ends in the target state, under the tops that are named, reaches the target.
    pub run_reaches : {v : ℕ} {ss : List Step} → v < m.g ^ (2 * m.k) → v % m.g ≡ m.target.0
        → EndsUnder m (digits m.g (2 * m.k) v) ss → Reaches m ss
    run_reaches {v} {ss} low ends (σ, r, h) =
        record {
          shared = m.target.0;
          stacks = σ;
          leads =
              (legal_full ss m.target.0 σ f.k.0).1 (record {
                line = digits m.g (2 * m.k) v;
                size = length_digits m.g (2 * m.k) v;
                turns = r;
                last = last_digits m.g (2 * m.k) v m.start.0 f.g.0 (omega (arith, f.k)) low ∙ ends;
              });
          target = (both (eqb m.target.0 m.target.0) (under_tops m σ)).1 ((equal m.target.0 m.target.0).1 refl, h);
        }

    -- A schedule that reaches the target goes along a full line that ends in the target state: the last state is the rest of the line's
    -- value by G.
    pub reaches_along : {ss : List Step} → Reaches m ss → AlongBelow m (m.g ^ (2 * m.k)) ss
    reaches_along {ss} r =
        let t = target_met r in
        let w = (legal_full ss r.shared r.stacks f.k.0).0 r.leads in
        let states = inside ((valid_fits m).1 f) f.start w.turns in
        let v : ℕ = value m.g w.line in
        let low : v < m.g ^ (2 * m.k) = subst (λ n. v < m.g ^ n) w.size (value_below m.g w.line states) in
        let same : digits m.g (2 * m.k) v ≡ w.line =
        subst (λ n. digits m.g n v ≡ w.line) w.size (digits_value m.g w.line states) in
        let rest = last_digits m.g (2 * m.k) v m.start.0 f.g.0 (omega (arith, f.k)) low in
        record {
          line = v;
          low = low;
          ends = sym rest ∙ (ap (last_of m.start.0) same ∙ (w.last ∙ t.0));
          run = rw same (r.stacks, w.turns, t.1);
        }

    module _ {a b : List ℕ} (costs : TargetCosts m a b) where
      -- Where both threads can follow a full line that ends in the target, a run along it reaches the target in the steps of both.
      pub costs_reach : {v : ℕ} → Open m.g m.target.0 (m.g ^ (2 * m.k)) a b v
          → (ss : List Step) × Reaches m ss × (capped (length ss) ≡ capped (get_or a v 0 + get_or b v 0))
      costs_reach {v} o =
          let p = (line_cost_lem m A m.a.top a f.k.0 costs.0 v o.low).some o.first in
          let q = (line_cost_lem m B m.b.top b f.k.0 costs.1 v o.low).some o.second in
          let r = joined_under p.1 q.1 in
          (r.0, run_reaches o.low o.ends r.1, omega (arith, p.2, q.2, r.2))

      -- A run along a full line has no fewer steps than both threads' costs of it.
      pub costs_least : {v : ℕ} {ss : List Step} → v < m.g ^ (2 * m.k) → AlongLine m v ss
          → (get_or a v 0 ≤ cap) × (get_or b v 0 ≤ cap) × (get_or a v 0 + get_or b v 0 ≤ length ss)
      costs_least {v} low r =
          let w = under_views r in
          let i = (line_cost_lem m A m.a.top a f.k.0 costs.0 v low).least w.a in
          let j = (line_cost_lem m B m.b.top b f.k.0 costs.1 v low).least w.b in
          (i.0, j.0, omega (arith, i.1, j.1, w.steps))

      -- The fewest steps over the lines are the least of all runs that reach the target.
      pub reaching : {n : ℕ} → Best m.g m.target.0 (m.g ^ (2 * m.k)) a b n → Least (Reaches m) n
      reaching {n} best = record { some = some; least = λ {ss} r. least r }
        where
          some : n ≤ cap → (ss : List Step) × Reaches m ss × (capped (length ss) ≡ n)
          some h =
              let s = best.some h in
              let r = costs_reach s.1 in
              (r.0, r.1, r.2 ∙ s.2)

          least : {ss : List Step} → Reaches m ss → (n ≤ cap) × (n ≤ length ss)
          least r =
              let w = reaches_along r in
              let i = costs_least w.low w.run in
              let z = best.least w.line (record { low = w.low; ends = w.ends; first = i.0; second = i.1 }) in
              (z.0, omega (arith, z.1, i.2))

  -- The verdict by the least steps of the runs that reach the target: above 4,096 there is none ..
  pub judged_clear : {n : ℕ} → Least (Reaches m) n → cap < n → Judged m clear
  judged_clear l h ss r = omega (arith, (l.least r).0)

  -- .. at 4,096 each has so many steps or more ..
  pub judged_long : {n : ℕ} → Least (Reaches m) n → n ≡ cap → Judged m long
  judged_long l e =
      let s = l.some (omega arith) in
      ((s.0, s.1), λ ss r. omega (arith, (l.least r).1))

  -- .. and below it one has just so many.
  pub judged_found : {n : ℕ} → Least (Reaches m) n → n ≤ most_steps → Judged m (found n)
  judged_found l h =
      let s = l.some (omega arith) in
      (h, record { schedule = s.0; reaches = s.1; steps = omega (arith, s.2); least = λ ss r. (l.least r).1 })
