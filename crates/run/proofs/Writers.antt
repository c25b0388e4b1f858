-- What the writers store is the first of the shortest runs: each case of the code is one step of the greedy choice, and the bytes of a
-- step come before those of the rest.
use mathlib.Core.List.{List, [], ◌∷◌}
use mathlib.Core.Path.{◌≡◌, refl, sym, ap}
use Prim.Native.Nat.{ℕ, suc, ◌+◌, ◌-◌, ◌*◌, ◌≤◌, ◌<◌}
use native.Mathlib.Numerals.{add-one}
use native.Mathlib.Omega.{arith}
use lib.ListN.{length, set}
use Rattle.model.specs.declared.Right.{Right}
use Rattle.model.specs.First.{First}
use Rattle.model.specs.Rules.{put}
use Rattle.model.specs.Schedules.{most_steps, Stored}
use Rattle.model.specs.Walk.{Step}
use Rattle.model.proofs.Firsts.{before_none}
use Rattle.summary.specs.Control.{Control}
use Rattle.summary.proofs.Numbers.{number_at, numbered_is, rules_in_lem}
use Rattle.run.specs.declared.head.Head.{Head}
use Rattle.run.specs.Exits.{place, Togo, Setting, Runs}
use Rattle.run.specs.Levels.{below, from, stack_of, entered_at, Steps, Tight, Ready, HeadFits}
use Rattle.run.specs.Plan.{turn_in, ends_in, rule_in}
use Rattle.run.specs.declared.plan.Plan.{Plan}
use Rattle.run.proofs.Greedy.{first_step, turn_end, first_turn}
use Rattle.run.proofs.Moves.{after_known, head_in, step_by, next, tight_move, move_tight}
use Rattle.run.proofs.Togos.{M, W, eight, within_line, bare_still}

-- A head in range is so after the end of its turn ..
pub entered_fits : {plan : Plan} {h n : Head} → HeadFits plan h → h.passed < plan.n → n ≡ entered_at h (ends_in plan h.passed).enter
    → HeadFits plan n
entered_fits {plan} {h} fits l e =
    let k = plan.in_range.inside h.passed (omega (arith, plan.in_range.two)) in
    rw e (record { passed = omega arith; control = omega (arith, k.1, plan.in_range.some); symbol = fits.symbol })

-- .. and after a step.
pub step_fits : {symbols left : List ℕ} {plan : Plan} {h n : Head} (r : ℕ) → HeadFits plan h → r < plan.count
    → Steps symbols h (rule_in plan r) n left → HeadFits plan n
step_fits {plan = plan} r fits l s =
    record {
      passed = omega (arith, s.passed, fits.passed);
      control = omega (arith, s.control, (plan.in_range.within r l).to);
      symbol = s.symbol;
    }

-- The same steps as those of another kind.
stored_as : {P Q : List Step → Type 0} {count at : ℕ} {old new : List ℕ} → ((us : List Step) → P us → Q us)
    → Stored P count at old new → Stored Q count at old new
stored_as f r = record { steps = r.steps; run = f r.steps r.run; count = r.count; shown = r.shown }

-- One step before others.
step_stored : {P Q : List Step → Type 0} {count at : ℕ} {old new : List ℕ} (s : Step) → ((us : List Step) → P us → Q (s ∷ us))
    → 0 < count → Stored P (count - 1) (at + 2) (set (set old at s.turn) (at + 1) s.rule) new → Stored Q count at old new
step_stored {count = count} {at = at} {old = old} s f h r =
    record {
      steps = s ∷ r.steps;
      run = f r.steps r.run;
      count = omega (arith, r.count);
      shown = let two : at + 2 ≡ suc (suc at) = omega arith in rw (two, add-one at) at r.shown;
    }

-- No step at all is the first run of no step.
none_first : {P : List Step → Type 0} {count : ℕ} → Togo P count → count ≡ 0 → First P count []
none_first {P} {count} t z = let r = t.some (omega arith) in go r.0 r.1 (omega (arith, r.2))
  where
    go : (ss : List Step) → P ss → length ss ≡ 0 → First P count []
    go [] r h = record { run = r; count = sym z; first = λ ts p e b. before_none b }
    go (x ∷ ss) r h = absurd (omega arith)

module _ {exits : List ℕ} {plan : Plan} (w : Setting exits plan) {levels symbols : List ℕ} where
  -- Where no step is left nothing is written.
  pub stopped : {h : Head} {stack : List ℕ} {count : ℕ} (at : ℕ) (old : List ℕ) → Ready w levels symbols h stack count → count ≡ 0
      → Stored (First (Runs w (from h) stack) count) count at old old
  stopped at old ready z = record { steps = []; run = none_first ready.togo z; count = sym z; shown = refl }

  module _ {h : Head} (fits : HeadFits plan h) {count : ℕ} (low : 0 < count) (most : count ≤ most_steps)
      (ready : Ready w levels symbols h (stack_of symbols h) count) where
    -- Where no rule is tight, the turn ends and as many steps are left.
    module _ (none : (i : ℕ) → i < plan.count → Tight exits levels h count (rule_in plan i) → ⊥) where
      no_move : (t : Step) (y : Right) (e : Control) (ts : List Step) → M w (from h) h.symbol t y e
          → Runs w e (put y (below symbols h.under)) ts → suc (length ts) ≡ count → ⊥
      no_move t y e ts m r k = let g = move_tight w fits t y e ts ready most m r k in none t.rule g.0 g.1

      -- So there is a turn end ..
      turn : (d : Control) × W w (from h) d × Togo (Runs w d (stack_of symbols h)) count
      turn = turn_end w low no_move most ready.togo

      -- .. of those to come ..
      pub turn_left : h.passed < plan.n
      turn_left = turn.1.more

      -- .. and it leads to the next turn's first control.
      abbrev entered : Head
      entered = entered_at h (ends_in plan h.passed).enter

      enters : turn.0 ≡ from entered
      enters =
          let s = turn.1 in
          sym (numbered_is turn.0 (h.passed + 1) (ends_in plan h.passed).enter (omega (arith, s.passed)) (rw (s.fresh, s.enter) (omega arith))
          (omega (arith, s.enter, (w.inside h.passed s.more).1, plan.in_range.four)))

      pub turn_ready : Ready w levels symbols entered (stack_of symbols h) count
      turn_ready =
          record {
            known = record { at = λ i l c p k. ready.known.at i l c p (omega arith) };
            togo = rw (← enters) turn.2;
          }

      pub turned : {at : ℕ} {old new : List ℕ} → Stored (First (Runs w (from entered) (stack_of symbols h)) count) count at old new
          → Stored (First (Runs w (from h) (stack_of symbols h)) count) count at old new
      turned q = stored_as (λ us f. first_turn w low no_move turn.1 (rw (← enters) at f)) q

    -- The first tight rule is the next step.
    module _ (r : ℕ) (listed : r < plan.count) (tight : Tight exits levels h count (rule_in plan r))
        (lower : (i : ℕ) → i < r → Tight exits levels h count (rule_in plan i) → ⊥) where
      move : M w (from h) h.symbol (step_by w fits r) (rule_in plan r).right (next w fits r)
      move = tight_move w fits r listed tight

      -- One step fewer is left after it.
      left : Togo (Runs w (next w fits r) (put (rule_in plan r).right (below symbols h.under))) (count - 1)
      left =
          let i = (within_line w).moves (head_in w fits) move in
          let k = after_known w (rule_in plan r).right ready.known i.0 (omega arith) i.1 in
          let low = rw w.planned.count at listed in
          let small : (rule_in plan r).after.0 < 8 = rw (w.planned.rules r low) (omega (arith, ((rules_in_lem plan.in_range.four w.fits).rules r low).to, eight w, w.planned.controls)) in
          let to : place (next w fits r) ≡ 8 * h.passed + (rule_in plan r).after.0 =
          omega (arith, (number_at h.passed (rule_in plan r).after.0 small).0) in
          rw (to, tight.steps) at k

      -- With the first run behind it, it is the first.
      goes : (us : List Step) → First (Runs w (next w fits r) (put (rule_in plan r).right (below symbols h.under))) (count - 1) us
          → First (Runs w (from h) (stack_of symbols h)) count (step_by w fits r ∷ us)
      goes us f =
          let whole : suc (count - 1) ≡ count = omega arith in
          rw whole at (first_step w move f
          (λ t y e ts m p k l. let g = move_tight w fits t y e ts ready most m p (omega arith) in lower t.rule l g.1))

      -- The head that a step leads to.
      leads : {n : Head} {rest : List ℕ} → Steps symbols h (rule_in plan r) n rest → from n ≡ next w fits r
      leads s = rw (s.passed, s.control)

      pub step_ready : {n : Head} {rest : List ℕ} → Steps symbols h (rule_in plan r) n rest → Ready w levels symbols n rest (count - 1)
      step_ready s =
          record {
            known = record { at = λ i l c p k. ready.known.at i (omega (arith, s.under)) c p (omega (arith, s.passed)) };
            togo = rw (leads s, ← s.stack) left;
          }

      pub stepped : {n : Head} {rest : List ℕ} {at : ℕ} {old new : List ℕ} → Steps symbols h (rule_in plan r) n rest
          → Stored (First (Runs w (from n) rest) (count - 1)) (count - 1) (at + 2) (set (set old at (turn_in plan h.passed)) (at + 1) r) new
          → Stored (First (Runs w (from h) (stack_of symbols h)) count) count at old new
      stepped s q = step_stored (step_by w fits r) goes low (rw (leads s, ← s.stack) at q)

      -- On an empty stack no step is left.
      pub emptied : {at : ℕ} {old new : List ℕ} → put (rule_in plan r).right (below symbols h.under) ≡ []
          → new ≡ set (set old at (turn_in plan h.passed)) (at + 1) r
          → Stored (First (Runs w (from h) (stack_of symbols h)) count) count at old new
      emptied e q =
          let run = left.some (omega arith) in
          let z : length run.0 ≡ 0 = ap length (bare_still w run.1 e) in
          step_stored (step_by w fits r) goes low
          (record { steps = []; run = none_first left (omega (arith, run.2)); count = omega (arith, run.2); shown = q })
