-- One thread's steps along a line: its plan, its exits and its first head are a setting of the writers, whose runs are those along the
-- line.
use mathlib.Core.List.{List, [], ◌∷◌}
use mathlib.Core.Path.{◌≡◌, refl, sym, ap, ◌∙◌}
use Prim.Native.Nat.{ℕ, suc, ◌+◌, ◌*◌, ◌≤◌, ◌<◌}
use native.Mathlib.Omega.{arith}
use lib.ListN.{get_or}
use Rattle.model.specs.declared.Thread.{Thread}
use Rattle.model.specs.Tops.{Top}
use Rattle.model.specs.First.{First}
use Rattle.model.specs.Lines.{digits}
use Rattle.model.proofs.Positions.{length_digits, digits_states}
use Rattle.model.specs.Schedules.{most_steps, Stored}
use Rattle.model.specs.Walk.{Step}
use Rattle.model.proofs.Firsts.{first_as}
use Rattle.costs.specs.Cost.{control, RunAlong, LeastAlong}
use Rattle.costs.specs.Ends.{turn_of, ends_of, first_state, last_state}
use Rattle.costs.proofs.Along.{ends_inside}
use Rattle.summary.specs.Cells.{stays_of}
use Rattle.summary.specs.Control.{Control, TurnEnd, Moves, Switches, Inside, Summed}
use Rattle.summary.specs.Stretch.{Path}
use Rattle.summary.proofs.Numbers.{numbered_is, stays_low}
use Rattle.run.specs.declared.head.Head.{Head}
use Rattle.run.specs.declared.steps.Start.{Start}
use Rattle.costs.specs.declared.side.Side.{Side}
use Rattle.costs.specs.Lanes.{Value, line_of}
use Rattle.run.specs.Chosen.{Prepared, Starts}
use Rattle.run.specs.Exits.{place, exit_at, Togo, Setting, Runs}
use Rattle.run.specs.Filled.{Filled}
use Rattle.run.specs.Levels.{below, level_at, from, stack_of, Ready, HeadFits}
use Rattle.run.specs.Plan.{ends_in}
use Rattle.run.specs.declared.plan.Plan.{Plan}
use Rattle.run.proofs.Filled.{filled_gone, filled_stays, filled_none}
use Rattle.run.proofs.Togos.{In, bare, place_low}

-- A run looks at no turn end but the first n.
path_ends : {t : Thread} {turn : ℕ → ℕ} {e f : ℕ → TurnEnd} {n : ℕ} → ((j : ℕ) → j < n → e j ≡ f j)
    → {top : Top} {c d : Control} {w : List ℕ} {ss : List Step}
    → Path (Moves t turn) (Switches e n) top c w ss d → Path (Moves t turn) (Switches f n) top c w ss d
path_ends h (Path.stop k) = Path.stop k
path_ends h (Path.move m p) = Path.move m (path_ends h p)
path_ends h (Path.change {c = c} s p) =
    let k = h c.passed s.more in
    Path.change
    (record {
      more = s.more;
      free = s.free;
      leave = s.leave ∙ ap (λ (x : TurnEnd). x.leave) k;
      enter = s.enter ∙ ap (λ (x : TurnEnd). x.enter) k;
      fresh = s.fresh;
      passed = s.passed;
    })
    (path_ends h p)

-- The same number of turn ends.
path_as : {t : Thread} {turn : ℕ → ℕ} {e : ℕ → TurnEnd} {n m l : ℕ} {top : Top} {c : Control} {w : List ℕ} {ss : List Step} → m ≡ n
    → Path (Moves t turn) (Switches e m) top c w ss (control m l) → Path (Moves t turn) (Switches e n) top c w ss (control n l)
path_as same p = rw same at p

-- A table is solved for as many states and turn ends.
pub summed_as : {t : Thread} {top : Top} {g h n m : ℕ} {ends : ℕ → TurnEnd} {table : List ℕ} → h ≡ g → m ≡ n
    → (Inside g n ends → Summed t top g n ends table) → Inside h m ends → Summed t top h m ends table
summed_as e f s = rw (e, f) s

-- Where a thread starts, from the parts of its line.
pub starts : (side : Side) (v : ℕ) {g len value s turn e stays : ℕ} → (g ≡ side.system.g) × (len ≡ 2 * suc side.n) × (value ≡ v)
    → stays ≡ stays_of side.system.top → s ≡ first_state side.id side.start (digits g len value) → s < g → turn ≡ turn_of side.id side.n
    → e ≡ get_or (digits g len value) turn 0 → e < g
    → Starts side v (record { head = record { passed = 0; control = s; symbol = side.system.th.first.0; under = 0 }; dest = stays + e })
starts side v {s = s} {e = e} line h a l r b k =
    let p : s ≡ first_state side.id side.start (line_of side v) = rw (line.0, line.1, line.2) at a in
    let q : e ≡ last_state side.id side.n (line_of side v) = rw (r, line.0, line.1, line.2) at b in
    record { head = rw p; dest = rw (q, h); first = omega (arith, p, l, line.0); last = omega (arith, q, k, line.0) }

-- With nothing under the symbol the lowest level is all that must be known.
pub ground_ready : {exits levels symbols : List ℕ} {plan : Plan} (w : Setting exits plan) {h : Head} {count : ℕ}
    → ((x : ℕ) → x < 24 → level_at levels 0 x ≡ exit_at exits x 16 24) → h.under ≡ 0 → Togo (Runs w (from h) (h.symbol ∷ [])) count → Ready w levels symbols h (stack_of symbols h) count
ground_ready {exits} {levels} {symbols} {plan} w {h} floor none togo =
    record { known = rw none (record { at = at }); togo = rw none togo }
  where
    at : (i : ℕ) → i ≤ 0 → (c : Control) → In w c → h.passed ≤ c.passed → Togo (Runs w c (below symbols i)) (level_at levels i (place c))
    at i l c p k =
        let zero : i ≡ 0 = omega arith in
        rw (zero, floor (place c) (place_low w c p)) (bare w c p)

module _ {side : Side} {v : ℕ} {tab : List ℕ} {plan : Plan} {from₀ : Start} (low : Value side v) (K : Prepared side v tab plan)
    (S : Starts side v from₀) where
  -- The plan's turn ends are the line's, so states below G.
  pub inside : Inside plan.states plan.n (ends_in plan)
  inside j h₀ =
      let h : j < side.n = omega (arith, h₀, K.turn_ends) in
      let size = length_digits side.system.g (2 * suc side.n) v in
      let states = digits_states side.system.g (2 * suc side.n) v low in
      let k = ends_inside side.id side.n (line_of side v) size states j h in
      let a : (ends_in plan j).leave ≡ (ends_of side.id (line_of side v) j).leave = ap (λ (x : TurnEnd). x.leave) (K.ends j h) in
      let b : (ends_in plan j).enter ≡ (ends_of side.id (line_of side v) j).enter = ap (λ (x : TurnEnd). x.enter) (K.ends j h) in
      (omega (arith, k.0, K.states), omega (arith, k.1, K.states))

  -- The destination of the end is one of sixteen.
  pub dest_small : from₀.dest < 16
  dest_small = omega (arith, S.dest, S.last, K.states, plan.in_range.four, stays_low side.system.top)

  -- The first head is in range.
  pub first_fits : HeadFits plan from₀.head
  first_fits =
      rw S.head
      (record {
        passed = omega arith;
        control = omega (arith, S.first, K.states, plan.in_range.some);
        symbol = omega (arith, side.system.fits.first);
      })

  -- It stands where the thread's first turn starts.
  first_from : from from₀.head ≡ control 0 (first_state side.id side.start (line_of side v))
  first_from =
      let low : first_state side.id side.start (line_of side v) < 4 = omega (arith, S.first, K.states, plan.in_range.four) in
      rw S.head (numbered_is (control 0 (first_state side.id side.start (line_of side v))) 0 (first_state side.id side.start (line_of side v)) refl (omega arith) low)

  module _ {exits : List ℕ} (filled : Filled tab plan from₀.dest exits) where
    -- The setting of the writers.
    abbrev pub setting : Setting exits plan
    setting =
        let sums : Summed side.system.th side.system.top plan.states plan.n (ends_in plan) tab = summed_as K.states K.turn_ends K.summed inside in
        let below : last_state side.id side.n (line_of side v) < plan.states = rw K.states S.last in
        record {
          thread = side.system.th;
          top = side.system.top;
          id = side.id;
          last = last_state side.id side.n (line_of side v);
          named = side.system.top_in;
          fits = rw K.states side.system.fits;
          inside = inside;
          planned = K.planned;
          gone = filled_gone K.planned sums below S.dest filled;
          stays = filled_stays K.planned sums below S.dest filled;
          none = filled_none K.planned sums below S.dest filled;
        }

    -- Its runs from the first head are those along the line.
    to_line : (ss : List Step) → Runs setting (from from₀.head) (from₀.head.symbol ∷ []) ss → RunAlong side.system.th side.system.top side.id side.n side.start (line_of side v) ss
    to_line ss r = path_ends K.ends (path_as K.turn_ends (rw (first_from, S.head) at r))

    from_line : (ss : List Step) → RunAlong side.system.th side.system.top side.id side.n side.start (line_of side v) ss → Runs setting (from from₀.head) (from₀.head.symbol ∷ []) ss
    from_line ss r = rw (first_from, S.head) (path_as (sym K.turn_ends) (path_ends (λ j l. sym (K.ends j l)) r))

    -- So they have as many steps ..
    pub first_togo : {count : ℕ} → count ≤ most_steps → LeastAlong side.system.th side.system.top side.id side.n side.start (line_of side v) count
        → Togo (Runs setting (from from₀.head) (from₀.head.symbol ∷ [])) count
    first_togo most least =
        record {
          some = λ h. let u = least.some (omega arith) in (u.0, from_line u.0 u.1, omega (arith, u.2));
          least = λ ss r h. (least.least (to_line ss r)).1;
        }

    -- .. and what is written is the first of them.
    pub first_written : {count : ℕ} {old new : List ℕ}
        → Stored (First (Runs setting (from from₀.head) (from₀.head.symbol ∷ [])) count) count 0 old new
        → Stored (First (RunAlong side.system.th side.system.top side.id side.n side.start (line_of side v)) count) count 0 old new
    first_written r = record { steps = r.steps; run = first_as to_line from_line r.run; count = r.count; shown = r.shown }
