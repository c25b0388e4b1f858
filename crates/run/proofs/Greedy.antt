-- Step by step, the first of the shortest runs: the rule of lowest number that leaves one step fewer to the end comes next, since any
-- other run of as many steps begins with a rule of no lower number or in a later turn; and where there is none, the turn ends.
use mathlib.Core.List.{List, [], ◌∷◌}
use mathlib.Core.Logic.{⊎_elim}
use mathlib.Core.Path.{◌≡◌, refl, sym, ap, subst, ◌∙◌}
use Prim.Native.Nat.{ℕ, suc, ◌-◌, ◌≤◌, ◌<◌}
use native.Mathlib.Omega.{arith}
use lib.ListN.{length}
use Rattle.model.specs.declared.Right.{Right}
use Rattle.model.specs.declared.ThreadId.{ThreadId}
use Rattle.model.specs.declared.ThreadId.TheVariants.{A, B}
use Rattle.model.specs.First.{Sooner, Before, First}
use Rattle.model.specs.Rules.{put, rule_at}
use Rattle.model.specs.Schedules.{most_steps}
use Rattle.model.specs.Walk.{Step}
use Rattle.model.proofs.Firsts.{before_cons}
use Rattle.costs.specs.Ends.{turn_of}
use Rattle.summary.specs.Control.{Control}
use Rattle.summary.specs.Stretch.{Path}
use Rattle.summary.proofs.Numbers.{control_eq}
use Rattle.run.specs.declared.plan.Plan.{Plan}
use Rattle.run.specs.Exits.{Togo, Setting, Runs}
use Rattle.run.proofs.Togos.{M, W}

-- A thread's own turns ascend.
turn_rises : (i : ThreadId) (j k : ℕ) → j < k → turn_of i j < turn_of i k
turn_rises A j k h = omega arith
turn_rises B j k h = omega arith

-- If there is a first step, it is made in no earlier turn of the thread than the given one.
data FirstIn (i : ThreadId) (j : ℕ) : List Step → Type 0 where
  none : FirstIn i j []
  at : {s : Step} {ss : List Step} (k : ℕ) → j ≤ k → s.turn ≡ turn_of i k → FirstIn i j (s ∷ ss)

-- The same for an earlier turn.
earlier : {i : ThreadId} {j k : ℕ} {ss : List Step} → j ≤ k → FirstIn i k ss → FirstIn i j ss
earlier h none = none
earlier h (at l k e) = at l (omega arith) e

module _ {exits : List ℕ} {plan : Plan} (w : Setting exits plan) where
  -- A run starts in the turn that it stands in, or in a later one.
  first_in : {c : Control} {stack : List ℕ} {ss : List Step} → Runs w c stack ss → FirstIn w.id c.passed ss
  first_in (Path.stop h) = none
  first_in {c} (Path.move m r) = at c.passed (omega arith) m.turn
  first_in (Path.change s r) = earlier (omega (arith, s.passed)) (first_in r)

  -- After a turn end no run stands before one that goes on in the turn.
  not_later : (j : ℕ) {s : Step} {ss ts : List Step} → s.turn ≡ turn_of w.id j → FirstIn w.id (suc j) ts → Before ts (s ∷ ss) → ⊥
  not_later j {s = s} {ss = ss} e none b = elim b [ ]
  not_later j {s} e (at {s = t} k l f) b =
      ⊎_elim (λ h. sooner h) (λ h. omega (arith, turn_rises w.id j k l, ap (λ (u : Step). u.turn) h.0)) (before_cons b)
    where
      sooner : Sooner t s → ⊥
      sooner (Sooner.turn h) = omega (arith, turn_rises w.id j k l)
      sooner (Sooner.rule h i) = omega (arith, turn_rises w.id j k l)

  -- One control, symbol and rule have one outcome.
  same_move : {c d e : Control} {γ : ℕ} {s t : Step} {x y : Right} → M w c γ s x d → M w c γ t y e → s ≡ t → (x ≡ y) × (d ≡ e)
  same_move {d = d} {e} {s = s} {t} m n same =
      let r : s.rule ≡ t.rule = ap (λ (u : Step). u.rule) same in (
        sym m.right ∙ (ap (λ u. (rule_at w.thread u).right) r ∙ n.right),
        control_eq d e (m.passed ∙ sym n.passed)
            (rw (m.held, n.held, r) refl)
            (m.shared ∙ (ap (λ u. (rule_at w.thread u).after.0) r ∙ sym n.shared)),
      )

  -- At most one control is entered at a turn's end.
  same_switch : {c d e : Control} → W w c d → W w c e → d ≡ e
  same_switch {d = d} {e} s t = control_eq d e (s.passed ∙ sym t.passed) (rw (s.fresh, t.fresh) refl) (s.enter ∙ sym t.enter)

  module _ {c : Control} {γ : ℕ} {stack : List ℕ} where
    -- A step with the first run behind it, if no run of as many steps begins by a rule of lower number.
    pub first_step : {s : Step} {x : Right} {d : Control} {k : ℕ} {ss : List Step} → M w c γ s x d → First (Runs w d (put x stack)) k ss
        → ((t : Step) (y : Right) (e : Control) (ts : List Step) → M w c γ t y e → Runs w e (put y stack) ts → length ts ≡ k
        → t.rule < s.rule → ⊥)
        → First (Runs w c (γ ∷ stack)) (suc k) (s ∷ ss)
    first_step {s} {x} {d} {k} {ss} m f lower =
        record { run = Path.move m f.run; count = ap suc f.count; first = λ ts r e b. go r refl refl e b }
      where
        same : {t : Step} {y : Right} {e : Control} {ts : List Step} → M w c γ t y e → Runs w e (put y stack) ts → length ts ≡ k
            → t ≡ s → Before ts ss → ⊥
        same {y = y} {ts = ts} n r e h b =
            let o = same_move n m h in
            f.first ts (subst (λ (z : Right). Runs w d (put z stack) ts) o.0 (subst (λ (z : Control). Runs w z (put y stack) ts) o.1 r)) e b

        sooner : {t : Step} {y : Right} {e : Control} {ts : List Step} → M w c γ t y e → Runs w e (put y stack) ts → length ts ≡ k
            → Sooner t s → ⊥
        sooner n r e (Sooner.turn h) = omega (arith, n.turn, m.turn)
        sooner {t} {y} {e} {ts} n r k (Sooner.rule h i) = lower t y e ts n r k i

        go : {b : Control} {u : List ℕ} {ts : List Step} → Runs w b u ts → b ≡ c → u ≡ γ ∷ stack → length ts ≡ suc k → Before ts (s ∷ ss) → ⊥
        go (Path.stop h) q p e b = omega arith
        go (Path.change v r) q p e b = not_later c.passed m.turn (rw (v.passed, q) at (first_in r)) b
        go (Path.move {γ = γ₁} {w = v} n r) q p e b =
            let a : γ₁ ≡ γ = cc in
            let z : v ≡ stack = cc in
            let n₁ = rw (a, q) at n in
            let r₁ = rw z at r in
            ⊎_elim (λ h. sooner n₁ r₁ (omega arith) h) (λ h. same n₁ r₁ (omega arith) h.0 h.1) (before_cons b)

    -- Where no run of n steps begins by a rule, each begins by the end of the turn.
    module _ {n : ℕ} (some : 0 < n)
        (no : (t : Step) (y : Right) (e : Control) (ts : List Step) → M w c γ t y e → Runs w e (put y stack) ts → suc (length ts) ≡ n → ⊥) where
      -- There is a turn end, and from its other side the same steps are left.
      pub turn_end : n ≤ most_steps → Togo (Runs w c (γ ∷ stack)) n → (d : Control) × W w c d × Togo (Runs w d (γ ∷ stack)) n
      turn_end most known = let r = known.some most in go r.1 refl refl r.2
        where
          go : {b : Control} {u : List ℕ} {ts : List Step} → Runs w b u ts → b ≡ c → u ≡ γ ∷ stack → length ts ≡ n
              → (d : Control) × W w c d × Togo (Runs w d (γ ∷ stack)) n
          go (Path.stop h) q p e = absurd (omega arith)
          go (Path.move {c₁ = c₁} {γ = γ₁} {s = s} {x = x} {w = v} {ss = ss} m r) q p e =
              let a : γ₁ ≡ γ = cc in
              let z : v ≡ stack = cc in
              absurd (no s x c₁ ss (rw (a, q) at m) (rw z at r) e)
          go (Path.change {c₁ = d} {ss = ts} s r) q p e =
              (d, rw q at s, record { some = λ h. (ts, rw p at r, e); least = λ us v h. known.least us (Path.change (rw q at s) v) h })

      -- The first run from there on is the first.
      pub first_turn : {d : Control} {ss : List Step} → W w c d → First (Runs w d (γ ∷ stack)) n ss → First (Runs w c (γ ∷ stack)) n ss
      first_turn {d} {ss} s f = record { run = Path.change s f.run; count = f.count; first = λ ts r e b. go r refl refl e b }
        where
          go : {b : Control} {u : List ℕ} {ts : List Step} → Runs w b u ts → b ≡ c → u ≡ γ ∷ stack → length ts ≡ n → Before ts ss → ⊥
          go (Path.stop h) q p e b = omega arith
          go (Path.move {c₁ = c₁} {γ = γ₁} {s = t} {x = x} {w = v} {ss = ts} m r) q p e b =
              let a : γ₁ ≡ γ = cc in
              let z : v ≡ stack = cc in
              no t x c₁ ts (rw (a, q) at m) (rw z at r) e
          go {u = u} {ts = ts} (Path.change v r) q p e b =
              f.first ts (rw p at (subst (λ (z : Control). Runs w z u ts) (same_switch (rw q at v) s) r)) e b

    -- A first step of a shortest run leaves one step fewer.
    pub step_tight : {n k : ℕ} {s : Step} {x : Right} {d : Control} {ss : List Step} → Togo (Runs w c (γ ∷ stack)) n → n ≤ most_steps
        → M w c γ s x d → Togo (Runs w d (put x stack)) k → Runs w d (put x stack) ss → suc (length ss) ≡ n → k ≡ n - 1
    step_tight {ss = ss} known most m next r e =
        let low = next.least ss r (omega arith) in
        let t = next.some (omega arith) in
        omega (arith, low, t.2, known.least _ (Path.move m t.1) (omega (arith, t.2)))
