-- The least steps to the end from a control and a stack, level by level: a run over a symbol ends while something stands in the
-- symbol's place, or the symbol goes at some control and the run goes on below. An empty stack is a stack with the floor on top.
use mathlib.Core.List.{List, [], ◌∷◌, ◌++◌, append-nil}
use mathlib.Core.Logic.{◌⊎◌, inl, inr, ⊎_elim}
use mathlib.Core.Path.{◌≡◌, refl, sym, ◌∙◌}
use Prim.Native.Nat.{ℕ, ◌+◌, ◌/◌, ◌%◌, ◌≤◌, ◌<◌}
use native.Mathlib.Decide.{dec_lt}
use native.Mathlib.Omega.{arith}
use lib.ListN.{length, length-append}
use Rattle.model.specs.declared.Right.{Right}
use Rattle.model.specs.Tops.{Top}
use Rattle.model.specs.Schedules.{most_steps}
use Rattle.model.specs.Walk.{Step}
use Rattle.model.proofs.Inside.{applies_iff}
use Rattle.costs.specs.Cost.{control}
use Rattle.costs.specs.Ends.{turn_of}
use Rattle.costs.proofs.Pairs.{floor_low, never}
use Rattle.summary.specs.Control.{Control, numbered, Moves, Switches, InTable}
use Rattle.summary.specs.Stretch.{End, pop, stay, end_of, Asks, Path, Stretch}
use Rattle.summary.specs.Table.{Exact}
use Rattle.summary.proofs.Floors.{first_return, floored, unfloored}
use Rattle.summary.proofs.Numbers.{controls_range, number_at, numbered_in}
use Rattle.summary.proofs.Overs.{Over, within, gone, overs, pops, stays}
use Rattle.summary.proofs.Ranging.{Sym, ranged}
use Rattle.summary.proofs.Tables.{Ranged, Bounded, bounded, exact_closed}
use Rattle.run.specs.Exits.{place, exit_at, least_over, Togo, Setting, Runs}
use Rattle.run.specs.Plan.{ends_in}
use Rattle.run.specs.declared.plan.Plan.{Plan}
use Rattle.run.proofs.Overs.{over_stay, over_each, over-one}

module _ {exits : List ℕ} {plan : Plan} (w : Setting exits plan) where
  -- The thread's steps and turn ends.
  abbrev pub M : Control → ℕ → Step → Right → Control → Type 0
  M = Moves w.thread (turn_of w.id)

  abbrev pub W : Control → Control → Type 0
  W = Switches (ends_in plan) plan.n

  -- The controls of the thread along the line.
  abbrev pub In : Control → Type 0
  In = InTable plan.controls plan.n

  -- There are at most eight controls in a turn.
  pub eight : plan.controls ≤ 8
  eight = omega (arith, w.planned.controls, (controls_range w.thread plan.states).1, plan.in_range.four)

  -- A control has a place.
  pub place_low : (c : Control) → In c → place c < 24
  place_low c p = omega (arith, p.passed, p.number, eight, plan.in_range.two)

  -- Steps and turn ends lead from controls to controls.
  pub within_line : Ranged M W In Sym
  within_line =
      let r = ranged (turn_of w.id) plan.in_range.four w.fits w.inside in
      rw (← w.planned.controls) at r

  -- No rule takes the floor.
  pub floor_idle : (c d : Control) (s : Step) (x : Right) → M c 16 s x d → ⊥
  floor_idle c d s x m =
      let a = (applies_iff w.thread s.rule c.shared 16).0 m.rule in
      omega (arith, (w.fits.rules s.rule a.listed).top, a.symbol)

  -- The cell of a stretch, and the destinations that the exits have cells for.
  abbrev cell_of : Control → ℕ → End Control → ℕ
  cell_of c γ (pop q) = exit_at exits (place c) γ (place q)
  cell_of c γ (stay f e) = exit_at exits (place c) γ 24

  abbrev Last : Top → Control → Type 0
  Last f e = (f ≡ w.top) × (e ≡ control plan.n w.last)

  -- No stretch is shorter than its cell says.
  bound : {c : Control} {γ : ℕ} {d : End Control} {ss rest : List Step} → In c → γ ≤ 16 → Asks Last d → Stretch M W c γ d ss rest
      → Bounded M W In Sym Last cell_of c γ d ss rest
  bound p q k r = bounded M W In Sym Last within_line (exact_closed M W cell_of within_line exact) p q k r
    where
      exact : (c : Control) (γ : ℕ) (d : End Control) → In c → Sym γ → In (end_of d) × Asks Last d → Exact M W c γ d (cell_of c γ d)
      exact c γ (pop q) p l k = w.gone c q γ p k.0 l
      exact c γ (stay f e) p l k = rw (k.1.0, k.1.1) (w.stays c γ p l)

  -- A stretch ends in no earlier turn.
  climbs : {c : Control} {γ : ℕ} {d : End Control} {ss rest : List Step} → Stretch M W c γ d ss rest → c.passed ≤ (end_of d).passed
  climbs (Stretch.here o) = omega arith
  climbs (Stretch.remove m) = omega (arith, m.passed)
  climbs (Stretch.swap m r) = omega (arith, m.passed, climbs r)
  climbs (Stretch.both m r t) = omega (arith, m.passed, climbs r, climbs t)
  climbs (Stretch.above m r) = omega (arith, m.passed, climbs r)
  climbs (Stretch.change s r) = omega (arith, s.passed, climbs r)

  -- A place is that of a control, or is never reached.
  decoded : (x γ y : ℕ) → x < 24 → γ ≤ 16 → y < 24
      → ((q : Control) × In q × (place q ≡ y)) ⊎ (most_steps < exit_at exits x γ y)
  decoded x γ y a b h =
      elim (dec_lt (y % 8) plan.controls) [
        | no l ↦ inr (omega (arith, w.none x γ y a b h (λ i j. l i)))
        | yes l ↦
            elim (dec_lt plan.n (y / 8)) [
              | yes k ↦ inr (omega (arith, w.none x γ y a b h (λ i j. omega arith)))
              | no k ↦
                  let inside : In (numbered (y / 8) (y % 8)) = numbered_in eight (omega (arith, k)) l in
                  inl (numbered (y / 8) (y % 8), inside, omega (arith, (number_at (y / 8) (y % 8) (omega arith)).0))
            ]
      ]

  -- With a symbol on top of a stack that is known, the least steps are the least over the ways to the end.
  module _ (c : Control) (p : In c) (γ : ℕ) (l : γ ≤ 16) (stack : List ℕ) (rest : ℕ → ℕ)
      (known : (q : Control) → In q → c.passed ≤ q.passed → Togo (Runs w q stack) (rest (place q))) where
    -- The symbol goes at some control, and the run goes on below.
    through : (q : Control) → In q → exit_at exits (place c) γ (place q) + rest (place q) ≤ most_steps
        → (ss : List Step) × Runs w c (γ ∷ stack) ss × (length ss ≡ exit_at exits (place c) γ (place q) + rest (place q))
    through q i h =
        let u = (w.gone c q γ p i l).some (omega arith) in
        let v = (known q i (climbs (u.1 []))).some (omega arith) in (
          u.0 ++ v.0,
          pops M W w.top (u.1 v.0) v.1,
          rw (length-append u.0 v.0) (omega (arith, u.2, v.2)),
        )

    pub level : Togo (Runs w c (γ ∷ stack)) (least_over (exit_at exits (place c) γ) rest 24)
    level =
        record {
          some = λ h. ⊎_elim (stayed h) (λ e. went h e.0 e.1 e.2) (over-one (exit_at exits (place c) γ) rest 24);
          least = λ ss r h. ⊎_elim
              (λ s. let b = bound p l (refl, refl) s in
              omega (arith, b.most, over_stay (exit_at exits (place c) γ) rest 24))
              (λ s. let b = bound p l tt s.2 in
              let k = (known s.0 b.inside (climbs s.2)).least s.1 s.3 (omega (arith, b.most)) in
              omega (arith, b.most, k, over_each (exit_at exits (place c) γ) rest 24 (place s.0) (place_low s.0 b.inside)))
              ((first_return M W w.top).0 r);
        }
      where
        Ways : ℕ → Type 0
        Ways n = (ss : List Step) × Runs w c (γ ∷ stack) ss × (length ss ≡ n)

        stayed : least_over (exit_at exits (place c) γ) rest 24 ≤ most_steps → least_over (exit_at exits (place c) γ) rest 24 ≡ exit_at exits (place c) γ 24
            → Ways (least_over (exit_at exits (place c) γ) rest 24)
        stayed h e =
            let u = (w.stays c γ p l).some (omega arith) in
            (u.0, rw append-nil at (stays M W w.top {w = stack} (u.1 [])), omega (arith, u.2))

        went : least_over (exit_at exits (place c) γ) rest 24 ≤ most_steps → (y : ℕ) → y < 24
            → least_over (exit_at exits (place c) γ) rest 24 ≡ exit_at exits (place c) γ y + rest y → Ways (least_over (exit_at exits (place c) γ) rest 24)
        went h y k e =
            ⊎_elim
            (λ q. let t = through q.0 q.1 (rw q.2 (omega arith)) in (t.0, t.1, t.2 ∙ rw q.2 (sym e)))
            (λ q. absurd (omega arith)) (decoded (place c) γ y (place_low c p) l k)

  -- On an empty stack the floor is on top.
  pub bare : (c : Control) → In c → Togo (Runs w c []) (exit_at exits (place c) 16 24)
  bare c p =
      let low = floor_low w.top w.named in
      record {
        some = λ h.
            let u = (w.stays c 16 p (omega arith)).some (omega arith) in
            (u.0, unfloored M W w.top 16 floor_idle low (rw append-nil at (stays M W w.top {w = []} (u.1 []))) [] refl, omega (arith, u.2));
        least = λ ss r h. go (overs M W w.top (floored M W w.top 16 floor_idle low r));
      }
    where
      go : {ss : List Step} → Over M W w.top c (16 ∷ []) ss (control plan.n w.last) → exit_at exits (place c) 16 24 ≤ length ss
      go (within r) = let b = bound p (omega arith) (refl, refl) r in omega (arith, b.most)
      go (gone r o) = absurd (never 16 floor_idle r)

  -- It makes no step.
  pub bare_still : {c : Control} {stack : List ℕ} {ss : List Step} → Runs w c stack ss → stack ≡ [] → ss ≡ []
  bare_still (Path.stop h) e = refl
  bare_still (Path.move m r) e = absurd (let z : ◌≡◌ {A = ℕ} 0 1 = cc in omega arith)
  bare_still (Path.change s r) e = bare_still r e
