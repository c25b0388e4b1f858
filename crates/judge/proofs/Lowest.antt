-- The first schedule over the lines so far: a line adds its own schedules, and of its first one and the first one so far the earlier is
-- the first of all.
use mathlib.Core.Bool.{Bool, true, false}
use mathlib.Core.List.{List}
use mathlib.Core.Logic.{◌⊎◌, inl, inr, ⊎_elim}
use mathlib.Core.Path.{◌≡◌, refl, sym, ◌∙◌}
use Prim.Native.Nat.{ℕ, ◌+◌, ◌*◌, ◌%◌, ◌^◌, ◌≤◌, ◌<◌}
use native.Mathlib.Decide.{ℕ_discrete}
use native.Mathlib.Omega.{arith}
use lib.ListN.{length, take, get_or}
use lib.Seq.{sets}
use Rattle.model.specs.declared.Model.{Model}
use Rattle.model.specs.First.{Before, First}
use Rattle.model.specs.Fits.{Fits}
use Rattle.model.specs.Runs.{Reaches}
use Rattle.model.specs.Schedules.{bytes_of, steps_of, Stored}
use Rattle.model.specs.Verdict.{found, Judged}
use Rattle.model.specs.Walk.{Step}
use Rattle.model.proofs.Firsts.{before_through, before_or, first_as}
use Rattle.model.proofs.Stores.{length_bytes, stored_front, stored_steps}
use Rattle.costs.specs.Cost.{TargetCosts}
use Rattle.judge.specs.Least.{AlongLine, AlongBelow, Lowest, none, some}
use Rattle.judge.proofs.Comparing.{stored_over}
use Rattle.judge.proofs.Reaching.{run_reaches, reaches_along, costs_reach, costs_least}

module _ {m : Model} {v : ℕ} where
  -- A schedule along an earlier line.
  later : {ss : List Step} → AlongBelow m v ss → AlongBelow m (v + 1) ss
  later r = record { line = r.line; low = omega (arith, r.low); ends = r.ends; run = r.run }

  -- One more line: a schedule goes along an earlier one or along line v.
  which : {ss : List Step} → AlongBelow m (v + 1) ss → AlongBelow m v ss ⊎ ((v % m.g ≡ m.target.0) × AlongLine m v ss)
  which {ss} r =
      elim (ℕ_discrete r.line v) [
        | yes e ↦ inr (rw e at r.ends, rw e at r.run)
        | no e ↦ inl (record { line = r.line; low = omega (arith, r.low); ends = r.ends; run = r.run })
      ]

  module _ {n : ℕ} where
    -- The first schedule of n steps along the lines so far, where line v has none before it.
    first_still : {ss : List Step}
        → ((ts : List Step) → v % m.g ≡ m.target.0 → AlongLine m v ts → length ts ≡ n → Before ts ss → ⊥)
        → First (AlongBelow m v) n ss → First (AlongBelow m (v + 1)) n ss
    first_still h p =
        record {
          run = later p.run;
          count = p.count;
          first = λ ts r e b. ⊎_elim (λ k. p.first ts k e b) (λ k. h ts k.0 k.1 e b) (which r);
        }

    -- The first one along line v is the first so far, where those along the lines below have none before it.
    first_new : {zs : List Step} → v % m.g ≡ m.target.0
        → ((ts : List Step) → AlongBelow m v ts → length ts ≡ n → Before ts zs → ⊥)
        → First (AlongLine m v) n zs → First (AlongBelow m (v + 1)) n zs
    first_new t h q =
        record {
          run = record { line = v; low = omega arith; ends = t; run = q.run };
          count = q.count;
          first = λ ts r e b. ⊎_elim (λ k. h ts k e b) (λ k. q.first ts k.1 e b) (which r);
        }

    module _ {ss zs : List Step} (p : First (AlongBelow m v) n ss) (q : First (AlongLine m v) n zs) where
      -- Of the first schedule so far and the first one along line v, the latter is the first where it stands before ..
      pub first_taken : v % m.g ≡ m.target.0 → Before zs ss → First (AlongBelow m (v + 1)) n zs
      first_taken t b = first_new t (λ ts r e k. p.first ts r e (before_through k b)) q

      -- .. and else the former.
      pub first-kept : (Before zs ss → ⊥) → First (AlongBelow m (v + 1)) n ss
      first-kept no_less =
          first_still
          (λ ts t r e b.
          ⊎_elim (λ k. no_less (before_through k b)) (⊎_elim (λ k. no_less (rw k b)) (λ k. q.first ts r e k))
          (before_or zs ts (q.count ∙ sym e)))
          p

-- Before all lines none is found.
pub lowest_none : (m : Model) (n : ℕ) (old : List ℕ) → Lowest m n 0 old old false
lowest_none m n old = none (λ ss r e. omega (arith, r.low)) refl

module _ {m : Model} {n v : ℕ} {old new : List ℕ} where
  -- A line that adds no schedule of n steps changes nothing: ..
  adds_none : {found : Bool} → Lowest m n v old new found
      → ((ss : List Step) → v % m.g ≡ m.target.0 → AlongLine m v ss → length ss ≡ n → ⊥) → Lowest m n (v + 1) old new found
  adds_none (none p s) h = none (λ ss r e. ⊎_elim (λ k. p ss k e) (λ k. h ss k.0 k.1 e) (which r)) s
  adds_none (some s) h =
      some (record { steps = s.steps; run = first_still (λ ts t r e b. h ts t r e) s.run; count = s.count; shown = s.shown })

  -- .. one that does not end in the target, ..
  pub lowest_elsewhere : {found : Bool} → Lowest m n v old new found → (v % m.g ≡ m.target.0 → ⊥)
      → Lowest m n (v + 1) old new found
  lowest_elsewhere p h = adds_none p (λ ss t r e. h t)

  -- .. and one along which none goes.
  pub lowest_passed : {found : Bool} → Lowest m n v old new found → ((ss : List Step) → AlongLine m v ss → length ss ≡ n → ⊥)
      → Lowest m n (v + 1) old new found
  lowest_passed p h = adds_none p (λ ss t r e. h ss r e)

  -- Where none was found so far, the first one along line v, written to the store, is the first.
  pub lowest_first : {kept : List ℕ} → Lowest m n v old kept false → v % m.g ≡ m.target.0
      → Stored (First (AlongLine m v) n) n 0 kept new → Lowest m n (v + 1) old new true
  lowest_first (none p e) t s =
      some (record {
        steps = s.steps;
        run = first_new t (λ ts r e b. p ts r e) s.run;
        count = s.count;
        shown = rw e at s.shown;
      })

  -- What the store holds once one is found.
  pub lowest_stored : Lowest m n v old new true → Stored (First (AlongBelow m v) n) n 0 old new
  lowest_stored (some s) = s

-- The first schedule so far stands in a store, and the first one along line v in another.
module _ {m : Model} {n v : ℕ} {old kept was fresh : List ℕ} (l : Lowest m n v old kept true)
    (q : Stored (First (AlongLine m v) n) n 0 was fresh) (room : 2 * n ≤ length old) (space : 2 * n ≤ length was) where
  -- Where the other one stands before, it is copied ..
  pub lowest_taken : {new : List ℕ} → v % m.g ≡ m.target.0 → Before (steps_of (take (2 * n) fresh)) (steps_of (take (2 * n) kept))
      → new ≡ sets kept 0 (take (2 * n) fresh) → Lowest m n (v + 1) old new true
  lowest_taken t b e =
      let p = lowest_stored l in
      let x = length_bytes p.steps in
      let y = length_bytes q.steps in
      some (record {
        steps = q.steps;
        run = first_taken p.run q.run t (rw (stored_steps q space, stored_steps p room) at b);
        count = q.count;
        shown =
            (rw (stored_front q space, p.shown) at e)
            ∙ stored_over old (bytes_of p.steps) (bytes_of q.steps) (omega (arith, p.count, q.count)) (omega (arith, q.count));
      })

  -- .. and else the store stays as it is.
  pub lowest_kept : (Before (steps_of (take (2 * n) fresh)) (steps_of (take (2 * n) kept)) → ⊥) → Lowest m n (v + 1) old kept true
  lowest_kept h =
      let p = lowest_stored l in
      some (record {
        steps = p.steps;
        run = first-kept p.run q.run (λ b. h (rw (stored_steps q space, stored_steps p room) b));
        count = p.count;
        shown = p.shown;
      })

module _ {m : Model} (f : Fits m) {n : ℕ} where
  -- After all full lines the first schedule along them is the least one that reaches the target.
  pub first_reaches : {ss : List Step} → First (AlongBelow m (m.g ^ (2 * m.k))) n ss → First (Reaches m) n ss
  first_reaches p = first_as (λ us r. run_reaches f r.low r.ends r.run) (λ us r. reaches_along f r) p

  module _ {old new : List ℕ} where
    -- The store holds it ..
    pub lowest_ends : Lowest m n (m.g ^ (2 * m.k)) old new true → Stored (First (Reaches m) n) n 0 old new
    lowest_ends (some s) =
        record { steps = s.steps; run = first_reaches s.run; count = s.count; shown = s.shown }

    -- .. if a run of n steps reaches the target at all.
    pub lowest_some : Judged m (found n) → Lowest m n (m.g ^ (2 * m.k)) old new false → ⊥
    lowest_some j (none p e) = p j.1.schedule (reaches_along f j.1.reaches) j.1.steps

  -- Where n is the least number of steps to the target, a schedule of n steps along a line has just the two costs of the line: it has
  -- no fewer, and a run along the line has just those.
  pub sum_is : {a b : List ℕ} {ss : List Step} (v : ℕ) → TargetCosts m a b → Judged m (found n) → v < m.g ^ (2 * m.k)
      → v % m.g ≡ m.target.0 → AlongLine m v ss → length ss ≡ n → get_or a v 0 + get_or b v 0 ≡ n
  sum_is v costs j low ends r e =
      let l = costs_least f costs low r in
      let s = costs_reach f costs {v = v} (record { low = low; ends = ends; first = l.0; second = l.1 }) in
      omega (arith, j.0, j.1.least s.0 s.1, s.2, l.2)

  -- So a line whose two costs are not n together has none.
  pub sum_not : {a b : List ℕ} (v : ℕ) → TargetCosts m a b → Judged m (found n) → v < m.g ^ (2 * m.k) → v % m.g ≡ m.target.0
      → (get_or a v 0 + get_or b v 0 ≡ n → ⊥) → (ss : List Step) → AlongLine m v ss → length ss ≡ n → ⊥
  sum_not v costs j low ends h ss r e = h (sum_is v costs j low ends r e)
