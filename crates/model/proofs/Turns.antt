-- Legal schedules are the runs turn by turn: the walk is a run whose turns end where the next step's turn begins, and
-- turns that no step names end at once; after a held step the next one is in the same turn, so no turn ends between. A run goes on with
-- empty turns, and may stop after any turn.
use mathlib.Core.Bool.{Bool, true, false, not, ◌||◌}
use mathlib.Core.List.{List, [], ◌∷◌, ◌++◌, append-nil}
use mathlib.Core.Logic.{◌↔◌}
use mathlib.Core.Path.{◌≡◌, refl, sym, ap, subst, ◌∙◌}
use Prim.Native.Nat.{ℕ, zero, suc, ◌+◌, ◌-◌, ◌*◌, ◌≤◌, ◌<◌}
use native.Mathlib.Nat.{le_refl, le_of_lt, add-zero}
use native.Mathlib.Omega.{arith}
use lib.Dec.{T, eqb, eqb→eq, eqb_refl}
use lib.ListN.{length, take, replicate, length-append, length-replicate}
use lib.Seq.{take-append_seam}
use Rattle.model.specs.declared.Model.{Model}
use Rattle.model.specs.Lines.{last_of}
use Rattle.model.specs.Results.{accepted}
use Rattle.model.specs.Rules.{held_at}
use Rattle.model.specs.Runs.{Leads, Turns, stop, end, move, Marked, TurnsBelow, Along}
use Rattle.model.specs.Walk.{owner_of, thread_of, Stacks, start_stacks, Config, Step, turn_free, after, step_from, walk}
use Rattle.model.proofs.Results.{apart, accepted_same, through}
use Rattle.model.proofs.Steps.{Stepped, steps, stepped}

-- The steps of a walk that is not refused are made in turns below 2K.
walk_below : (m : Model) (ss : List Step) (c : Config) {d : Config} → walk m c ss ≡ accepted d → TurnsBelow (2 * m.k) ss
unfolding walk
walk_below m [] c e = tt
walk_below m (s ∷ ss) c e =
    let gone = through (step_from m c s) (λ d. walk m d ss) e in
    ((stepped gone.1).early, walk_below m ss gone.0 gone.2)

-- A run from turn t on along a line whose last state, that of turn n−1, and stacks are those of a configuration.
record Run (m : Model) (t n : ℕ) (held : Bool) (g : ℕ) (σ : Stacks) (ss : List Step) (ends : Config) : Type 0 where
  line : List ℕ
  size : t + length line ≡ n
  turns : Turns m t held g σ line ss ends.stacks
  last : last_of g line ≡ ends.shared

-- A configuration from its parts.
abbrev at : ℕ → Bool → ℕ → Stacks → Config
at t held g σ = record { turn = t; held = held; shared = g; stacks = σ }

-- A step in turn u may follow one in turn t, whether held or not.
abbrev may_follow : Bool → ℕ → ℕ → Type 0
may_follow held t u = T (not held || eqb t u)

-- A step in the same turn may always follow.
same_turn : (held : Bool) (t : ℕ) → may_follow held t t
same_turn true t = eqb_refl t
same_turn false t = tt

-- Repeating the first state does not change the last.
last_replicate : (d g : ℕ) (line : List ℕ) → last_of g (replicate d g ++ line) ≡ last_of g line
last_replicate zero g line = refl
last_replicate (suc d) g line = last_replicate d g line

module _ {m : Model} where
  -- The walk makes the steps of a run, and ends at the line's last state.
  walks : {t g : ℕ} {held : Bool} {σ τ : Stacks} {line : List ℕ} {ss : List Step}
      → Turns m t held g σ line ss τ → (u : ℕ) → u ≤ t → may_follow held u t → t + length line ≤ 2 * m.k
      → (n : ℕ) × (walk m (at u held g σ) ss ≡ accepted (at n false (last_of g line) τ))
  unfolding walk turn_free
  walks stop u h f k = (u, refl)
  walks (end r) u h f k = walks r u (omega arith) tt (omega arith)
  walks {t = t} {held = held} (move {r = rule} e p r) u h f k =
      let rest = walks r t (le_refl t) (same_turn (held_at (thread_of (owner_of t) m) rule) t) k in (
        rest.0,
        rw (steps {c = at u held _ _} (record { later = h; early = omega arith; free = f; top = _; below = _; stack = e; rule = p; come = refl })) rest.1,
      )

  -- The steps of a run are made in the turns of its line.
  below : {t g : ℕ} {held : Bool} {σ τ : Stacks} {line : List ℕ} {ss : List Step}
      → Turns m t held g σ line ss τ → (n : ℕ) → t + length line ≡ n → TurnsBelow n ss
  below stop n h = tt
  below (end r) n h = below r n (omega arith)
  below (move e p r) n h = (omega arith, below r n h)

  -- Turns without steps before a run.
  waits : (d : ℕ) {t u g : ℕ} {σ τ : Stacks} {line : List ℕ} {ss : List Step}
      → t + d ≡ u → Turns m u false g σ line ss τ → Turns m t false g σ (replicate d g ++ line) ss τ
  waits zero {t} e r = rw (sym e ∙ add-zero t) at r
  waits (suc d) {t} {u} e r = let f : suc t + d ≡ u = omega arith in end (waits d f r)

  -- A run that starts at a later turn, after turns without steps.
  later : {t u n g : ℕ} {σ : Stacks} {ss : List Step} {ends : Config} → t ≤ u → Run m u n false g σ ss ends → Run m t n false g σ ss ends
  later {t} {u} {g = g} h r =
      record {
        line = replicate (u - t) g ++ r.line;
        size = rw (length-append, length-replicate) (omega (arith, r.size));
        turns = waits (u - t) (omega arith) r.turns;
        last = last_replicate (u - t) g r.line ∙ r.last;
      }

  -- A run that may follow a step made in turn t: after a held one it starts in that turn.
  follows : {t u n g : ℕ} (held : Bool) {σ : Stacks} {ss : List Step} {ends : Config} → t ≤ u → may_follow held t u
      → Run m u n held g σ ss ends → Run m t n held g σ ss ends
  follows {t} {u} true h f r = rw (eqb→eq t u f) r
  follows false h f r = later h r

  -- A step before a run in the same turn, where the run ends that turn.
  first : {c d : Config} {s : Step} {n : ℕ} {ss : List Step} {ends : Config} → Stepped m c s d → s.turn < n
      → Run m s.turn n d.held d.shared d.stacks ss ends
      → Run m s.turn n c.held c.shared c.stacks (s ∷ ss) ends
  first {c} {d} {s} {n} {ss} {ends} h k r = go r.line r.size (rw h.come at r.turns) r.last
    where
      go : (line : List ℕ) → s.turn + length line ≡ n
          → Turns m s.turn (after m c s h.below).held (after m c s h.below).shared (after m c s h.below).stacks
          line ss ends.stacks
          → last_of d.shared line ≡ ends.shared → Run m s.turn n c.held c.shared c.stacks (s ∷ ss) ends
      go [] e t l = absurd (omega arith)
      go (o ∷ line) e t l = record { line = o ∷ line; size = e; turns = move h.stack h.rule t; last = l }

  -- A walk that makes no step more stops after its turn, and waits for turn n.
  ends : (t n : ℕ) (held : Bool) (g : ℕ) (σ : Stacks) {c : Config}
      → walk m (at t held g σ) [] ≡ accepted c → t < n → Run m t n held g σ [] c
  unfolding walk
  ends t n true g σ w h = apart w
  ends t n false g σ {c} w h =
      let same : at t false g σ ≡ c = accepted_same w in
      later (le_of_lt h)
      (record {
        line = [];
        size = add-zero n;
        turns = subst (λ τ. Turns m n false g σ [] [] τ) (ap (λ (d : Config). d.stacks) same) stop;
        last = ap (λ (d : Config). d.shared) same;
      })

  -- A walk whose steps are made before turn n is a run along a line that ends with turn n−1.
  runs : (ss : List Step) (t n : ℕ) (held : Bool) (g : ℕ) (σ : Stacks) {c : Config}
      → walk m (at t held g σ) ss ≡ accepted c → TurnsBelow n ss → t < n
      → Run m t n held g σ ss c
  unfolding walk turn_free
  runs [] t n held g σ w b h = ends t n held g σ w h
  runs (s ∷ ss) t n held g σ {c} w b h =
      let gone = through (step_from m (at t held g σ) s) (λ d. walk m d ss) w in
      let d : Config = gone.0 in
      let k = stepped gone.1 in
      let rest : walk m (at s.turn d.held d.shared d.stacks) ss ≡ accepted c =
      subst (λ u. walk m (at u d.held d.shared d.stacks) ss ≡ accepted c) (ap (λ (e : Config). e.turn) k.come) gone.2 in
      follows held k.later k.free (first k b.0 (runs ss s.turn n d.held d.shared d.stacks rest b.1 b.0))

  -- A schedule with all turns below n is legal exactly if it is the steps of a run along a line of n states, and then
  -- the line's last state is the last shared state, and the stacks are the same.
  pub legal_turns : (n : ℕ) (ss : List Step) (g : ℕ) (σ : Stacks) → 0 < n → n ≤ 2 * m.k
      → (TurnsBelow n ss × Leads m ss g σ) ↔ Along m n ss g σ
  legal_turns n ss g σ h k = (to, from)
    where
      to : TurnsBelow n ss × Leads m ss g σ → Along m n ss g σ
      to (b, l) =
          let r = runs ss 0 n false m.start.0 (start_stacks m) l.walked b h in
          record { line = r.line; size = omega (arith, r.size); turns = r.turns; last = r.last }

      from : Along m n ss g σ → TurnsBelow n ss × Leads m ss g σ
      from a =
          let w = walks a.turns 0 (le_refl 0) tt (omega (arith, a.size)) in
          (below a.turns n (omega (arith, a.size)), record { turn = w.0; walked = rw a.last at w.1 })

  -- A schedule is legal exactly if it is the steps of a run along a full line, of 2K states.
  pub legal_full : (ss : List Step) (g : ℕ) (σ : Stacks) → 1 ≤ m.k → Leads m ss g σ ↔ Along m (2 * m.k) ss g σ
  legal_full ss g σ h =
      let both = legal_turns (2 * m.k) ss g σ (omega arith) (le_refl (2 * m.k)) in
      (λ l. both.0 (walk_below m ss _ l.walked, l), λ a. (both.1 a).1)

  -- Turns without steps after a run.
  padded : (d : ℕ) {t g : ℕ} {held : Bool} {σ τ : Stacks} {line : List ℕ} {ss : List Step}
      → Turns m t held g σ line ss τ → Turns m t held g σ (line ++ replicate d (last_of g line)) ss τ
  padded d {t} {g} {σ} stop = rw append-nil at (waits d {t = t} {g = g} {σ = σ} refl stop)
  padded d (end r) = end (padded d r)
  padded d (move e p r) = move e p (padded d r)

  -- A run may stop after any turn of its line.
  stopped : {t g : ℕ} {held : Bool} {σ τ : Stacks} {line : List ℕ} {ss : List Step}
      → Turns m t held g σ line ss τ → (n : ℕ) → (rs : List Step) × (ρ : Stacks) × Turns m t held g σ (take (suc n) line) rs ρ
  stopped {σ = σ} stop n = ([], σ, stop)
  stopped {σ = σ} (end r) zero = ([], σ, end stop)
  stopped (end r) (suc n) = let s = stopped r n in (s.0, s.1, end s.2)
  stopped (move e p r) n = let s = stopped r n in (_ ∷ s.0, s.1, move e p s.2)

  -- A prefix of a marked line is marked.
  pub marked_prefix : (line more : List ℕ) → Marked m (line ++ more) → Marked m line
  marked_prefix [] more r = ([], start_stacks m, stop)
  marked_prefix (o ∷ line) more r = rw (take-append_seam (o ∷ line) more) at (stopped r.2 (length line))

  -- A line is marked exactly if it is with its last state repeated at its end; once is d = 1.
  pub marked_padded : (d : ℕ) (line : List ℕ) → Marked m line ↔ Marked m (line ++ replicate d (last_of m.start.0 line))
  marked_padded d line = (λ r. (r.0, r.1, padded d r.2), marked_prefix line (replicate d (last_of m.start.0 line)))
