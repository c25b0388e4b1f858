-- The rules of a plan are the moves of its thread, a tight one leaves one step fewer to the end, and each first step of a shortest run is
-- tight.
use mathlib.Core.List.{List, ◌∷◌}
use mathlib.Core.Path.{◌≡◌, refl, sym, ap}
use Prim.Native.Nat.{ℕ, suc, ◌+◌, ◌*◌, ◌%◌, ◌≤◌, ◌<◌}
use native.Mathlib.Omega.{arith}
use lib.ListN.{length}
use Rattle.model.specs.declared.Right.{Right}
use Rattle.model.specs.declared.Right.TheVariants.{Remove, Swap, Push}
use Rattle.model.specs.declared.Rule.{Rule}
use Rattle.model.specs.declared.ThreadId.{ThreadId}
use Rattle.model.specs.Rules.{rule_at, held_at, put}
use Rattle.model.specs.Schedules.{most_steps}
use Rattle.model.specs.Walk.{Step}
use Rattle.model.proofs.Inside.{applies_iff}
use Rattle.costs.specs.Ends.{turn_of}
use Rattle.summary.specs.Control.{Control, numbered}
use Rattle.summary.proofs.Numbers.{numbered_is, numbered_in}
use Rattle.summary.proofs.Ranging.{Sym}
use Rattle.summary.proofs.Tables.{Symbols}
use Rattle.run.specs.declared.head.Head.{Head}
use Rattle.run.specs.Exits.{place, Togo, Setting, Runs}
use Rattle.run.specs.Levels.{below, level_at, from, stack_of, over_level, after_step, Tight, Known, Ready, HeadFits}
use Rattle.run.specs.Plan.{turn_in, rule_in}
use Rattle.run.specs.declared.plan.Plan.{Plan}
use Rattle.run.proofs.Greedy.{step_tight}
use Rattle.run.proofs.Togos.{M, In, eight, within_line, level}

module _ {exits : List ℕ} {plan : Plan} (w : Setting exits plan) where
  -- The least steps after a right side has come onto a level that is known.
  pub after_known : {levels symbols : List ℕ} {j i : ℕ} {c : Control} (x : Right) → Known w levels symbols j i → In w c → j ≤ c.passed
      → Symbols Sym x → Togo (Runs w c (put x (below symbols i))) (after_step exits levels i (place c) x)
  after_known {i = i} {c} Remove k p h f = k.at i (omega arith) c p h
  after_known {levels} {symbols} {i = i} {c} (Swap a) k p h f =
      level w c p a.0 f (below symbols i) (level_at levels i) (λ q l m. k.at i (omega arith) q l (omega arith))
  after_known {levels} {symbols} {i = i} {c} (Push a b) k p h f =
      level w c p a.0 f.0 (b.0 ∷ below symbols i) (over_level exits levels i b.0)
      (λ q l m. level w q l b.0 f.1 (below symbols i) (level_at levels i) (λ u v n. k.at i (omega arith) u v (omega arith)))

  module _ {h : Head} (fits : HeadFits plan h) where
    -- A head is at a control of the line.
    pub head_in : In w (from h)
    head_in = numbered_in (eight w) (omega (arith, fits.passed)) fits.control

    -- The step by a rule in the turn of the head.
    abbrev pub step_by : ℕ → Step
    step_by r = record { turn = turn_in plan h.passed; rule = r }

    -- Where it leads to.
    abbrev pub next : ℕ → Control
    next r = numbered h.passed (rule_in plan r).after.0

    -- A tight rule of the plan is a move of the thread.
    pub tight_move : {levels : List ℕ} {count : ℕ} (r : ℕ) → r < plan.count → Tight exits levels h count (rule_in plan r)
        → M w (from h) h.symbol (step_by r) (rule_in plan r).right (next r)
    tight_move r low t =
        let l = rw w.planned.count at low in
        let e = w.planned.rules r l in
        let to : Control = record { passed = h.passed; held = held_at w.thread r; shared = (rule_at w.thread r).after.0 } in
        let same : next r ≡ to =
        numbered_is to h.passed (rule_in plan r).after.0 refl (ap (λ (x : Rule). x.after.0) e)
        (omega (arith, (w.fits.rules r l).next, plan.in_range.four)) in
        record {
          rule = (applies_iff w.thread r (h.control % 4) h.symbol).1
              (record { listed = l; state = rw e at t.state; symbol = rw e at t.symbol });
          right = ap (λ (x : Rule). x.right) (sym e);
          shared = ap (λ (c : Control). c.shared) same;
          held = ap (λ (c : Control). c.held) same;
          passed = refl;
          turn = ap (λ (i : ThreadId). turn_of i h.passed) w.planned.turns;
        }

    -- A first step of a shortest run is by a rule of the plan that is tight.
    pub move_tight : {levels symbols : List ℕ} {count : ℕ} (t : Step) (y : Right) (e : Control) (ts : List Step)
        → Ready w levels symbols h (stack_of symbols h) count → count ≤ most_steps → M w (from h) h.symbol t y e
        → Runs w e (put y (below symbols h.under)) ts → suc (length ts) ≡ count
        → (t.rule < plan.count) × Tight exits levels h count (rule_in plan t.rule)
    move_tight {levels} {symbols} {count} t y e ts ready most m r len =
        let a = (applies_iff w.thread t.rule (h.control % 4) h.symbol).0 m.rule in
        let p = w.planned.rules t.rule a.listed in
        let i = (within_line w).moves head_in m in
        let k = after_known y ready.known i.0 (omega (arith, m.passed)) i.1 in
        let tight = step_tight w ready.togo most m k r len in
        let to : place e ≡ 8 * h.passed + (rule_in plan t.rule).after.0 = rw (p, ← m.held, ← m.shared, m.passed) refl in
        let right : (rule_in plan t.rule).right ≡ y = rw p m.right in (
          rw w.planned.count a.listed,
          record { state = rw p a.state; symbol = rw p a.symbol; steps = rw (right, ← to) tight },
        )
