-- From a thread's first turn to its last the one-stack system does what the thread does: a rule of the thread acts on the copy of the turn,
-- a pass goes on to the next copy, and as long as turns are left no other rule applies to the thread's tops.
use mathlib.Core.List.{List, [], ◌∷◌, ◌++◌, map}
use mathlib.Core.Path.{◌≡◌, refl, sym, ap, ◌∙◌}
use Prim.Native.Nat.{ℕ, suc, ◌+◌, ◌≤◌, ◌<◌}
use native.Mathlib.Omega.{arith}
use lib.ListN.{length, length-append}
use lib.Seq.{append_snoc, get_or-append_seam, set-append_seam}
use Rattle.model.specs.declared.Model.{Model}
use Rattle.model.specs.declared.ThreadId.{ThreadId}
use Rattle.model.specs.declared.ThreadId.TheVariants.{B}
use Rattle.model.specs.Fits.{Fits}
use Rattle.model.specs.Lines.{States}
use Rattle.model.specs.Rules.{rule_at, put}
use Rattle.model.specs.Walk.{thread_of}
use Rattle.model.proofs.Inside.{Applies, fits_of}
use Rattle.sequential.specs.Allowed.{symbol_of, closing, at, with_copy, StateOf, Kind, acts, passes, closes, begins, Allowed}
use Rattle.sequential.specs.System.{State, Run, stop, step, Tops}
use Rattle.sequential.proofs.Phases.{Phase, done, pass, act}
use Rattle.sequential.proofs.Tops.{symbol, owned, low, only, alike, unmarked, Symbols, put_fits, stack, placed, topped, top_of}

-- The state at a thread's next turn, with the copies of the turns that it has ended and of those that are left.
abbrev cell : List ℕ → List ℕ → State
cell ends qs = at (suc (length ends)) (ends ++ qs)

-- The state where one more turn has ended.
next_cell : (ends : List ℕ) (q : ℕ) (qs : List ℕ) → cell (ends ++ (q ∷ [])) qs ≡ at (suc (suc (length ends))) (ends ++ q ∷ qs)
next_cell ends q qs =
    let e : length (ends ++ (q ∷ [])) ≡ suc (length ends) = rw length-append (omega arith) in
    rw (e, append_snoc) refl

-- Copies stay below G with another state below G in one place.
replaced : (g : ℕ) (xs : List ℕ) (q p : ℕ) (ys : List ℕ) → p < g → States g (xs ++ q ∷ ys) → States g (xs ++ p ∷ ys)
replaced g [] q p ys h s = (h, s.1)
replaced g (x ∷ xs) q p ys h s = (s.0, replaced g xs q p ys h s.1)

-- A thread has K turns, ended or left.
turns : {m : Model} (ends qs : List ℕ) → StateOf m (cell ends qs) → length ends + length qs ≡ m.k
turns ends qs s = rw length-append at s.count

module _ {m : Model} (f : Fits m) (t : State) (id : ThreadId) (below : List ℕ) where
  -- The check symbol can come on top at the last state.
  abbrev Ends : State → List ℕ → Type 0
  Ends s w = Tops (Allowed m) (closing B) s w t

  -- It can if it can after a pass ..
  passing : {s : State} (w : List ℕ) → StateOf m s → s.counter ≤ m.k → Symbols w
      → Ends (at (suc s.counter) s.copies) (stack id w below) → Ends s (stack id w below)
  passing {s} w state h fit =
      topped (λ u. Ends (at (suc s.counter) s.copies) u → Ends s u) id w below fit λ top rest k r.
      (r.0, step (record { state = state; kind = passes (record { turn = h; symbol = low id k; after = refl; right = refl }) }) r.1)

  -- .. or after the last turn with the closing symbol.
  closing_up : {s : State} (w : List ℕ) → StateOf m s → s.counter ≡ m.k + 1 → Symbols w
      → Ends (at 1 s.copies) (closing id ∷ stack id w below) → Ends s (stack id w below)
  closing_up {s} w state h fit =
      topped (λ u. Ends (at 1 s.copies) (closing id ∷ u) → Ends s u) id w below fit λ top rest k r.
      let kind = closes (record { id = id; turn = h; symbol = (owned id top).1 k; after = refl; right = refl }) in
      (r.0, step (record { state = state; kind = kind }) r.1)

  -- The system can make the turns of a thread: what it comes to after them it comes to.
  pub made : (ends : List ℕ) {qs w es : List ℕ} → Phase (thread_of id m) qs w es → StateOf m (cell ends qs) → Symbols w
      → ((v : List ℕ) → StateOf m (at 1 (ends ++ es)) → Ends (at 1 (ends ++ es)) (closing id ∷ stack id v below))
      → Ends (cell ends qs) (stack id w below)
  made ends (done {w = w}) s fit go =
      let size = turns ends [] s in
      let first : StateOf m (at 1 (ends ++ [])) = record { low = omega arith; high = omega arith; count = s.count; below = s.below } in
      closing_up w s (omega arith) fit (go w first)
  made ends (pass {q = q} {qs = qs} {w = w} p) s fit go =
      let size = turns ends (q ∷ qs) s in
      let next : StateOf m (at (suc (suc (length ends))) (ends ++ q ∷ qs)) =
      record { low = omega arith; high = omega arith; count = s.count; below = s.below } in
      let r = made (ends ++ (q ∷ [])) p (rw next_cell next) fit (λ v. rw append_snoc (go v)) in
      passing w s (omega arith) fit (rw next_cell at r)
  made ends (act {r = r} {q = q} {qs = qs} {w = w} h p) s fit go =
      let size = turns ends (q ∷ qs) s in
      let rule = (fits_of f id).rules r h.listed in
      let to = (rule_at (thread_of id m) r).after.0 in
      let new = (rule_at (thread_of id m) r).right in
      let states = replaced m.g ends q to qs rule.next s.below in
      let next : StateOf m (cell ends (to ∷ qs)) =
      record { low = s.low; high = s.high; count = rw length-append (omega arith); below = states } in
      let u : Ends (with_copy (cell ends (q ∷ qs)) to) (map (symbol_of id) (put new []) ++ stack id w below) =
      rw (set-append_seam, placed) (made ends p next (put_fits new w rule.symbols fit.1) go) in
      let turn : suc (length ends) ≤ m.k = omega arith in
      let kind = acts (record {
        id = id;
        number = r;
        listed = h.listed;
        turn = turn;
        before = h.state ∙ sym (get_or-append_seam ends q qs 0);
        symbol = ap (symbol_of id) (sym h.symbol);
        after = refl;
        right = refl;
      }) in
      (u.0, step (record { state = s; kind = kind }) u.1)

  -- A run to the check symbol begins with the turns that are left to the thread, and goes on with the closing symbol.
  pub record Half (ends qs w : List ℕ) : Type 0 where
    pub state : StateOf m (cell ends qs)
    pub ended : List ℕ
    pub left : List ℕ
    pub phase : Phase (thread_of id m) qs w ended
    pub rest : Ends (at 1 (ends ++ ended)) (closing id ∷ stack id left below)

  -- It does from a state and a stack on, whichever turns are left there.
  abbrev Goes : State → List ℕ → Type 0
  Goes s u = (ends qs w : List ℕ) → s ≡ cell ends qs → u ≡ stack id w below → Symbols w → Half ends qs w

  -- It does where none are left: the next rule closes them ..
  closed : (ends w : List ℕ) {n : State} {top : ℕ} {new rest : List ℕ} → StateOf m (cell ends [])
      → Kind m (record { state = cell ends []; top = top; next = n; new = new }) → top ∷ rest ≡ stack id w below → Symbols w
      → Ends n (new ++ rest) → Half ends [] w
  closed ends w s (acts a) e fit r = absurd (omega (arith, turns ends [] s, a.turn))
  closed ends w s (passes a) e fit r = absurd (omega (arith, turns ends [] s, a.turn))
  closed ends w {top = top} s (closes a) e fit r =
      let same = only a.id id ((owned a.id top).0 a.symbol) (top_of id w below fit e) in
      record { state = s; ended = []; left = w; phase = done; rest = rw e at (rw (a.after, a.right, same) at r) }
  closed ends w s (begins a) e fit r = absurd (omega (arith, a.symbol, low id (top_of id w below fit e)))

  -- .. and else by a step of the thread ..
  acting : (ends : List ℕ) (q : ℕ) (qs w : List ℕ) {n : State} {top : ℕ} {new rest : List ℕ} (r : ℕ) → r < (thread_of id m).count
      → StateOf m (cell ends (q ∷ qs)) → (rule_at (thread_of id m) r).before.0 ≡ q → top ≡ symbol_of id (rule_at (thread_of id m) r).symbol.0
      → n ≡ cell ends ((rule_at (thread_of id m) r).after.0 ∷ qs) → new ≡ map (symbol_of id) (put (rule_at (thread_of id m) r).right [])
      → top ∷ rest ≡ stack id w below → Symbols w → Goes n (new ++ rest) → Half ends (q ∷ qs) w
  acting ends q qs [] r listed s before top to right e fit go =
      absurd (unmarked id (rule_at (thread_of id m) r).symbol.0 ((fits_of f id).rules r listed).top cc)
  acting ends q qs (x ∷ w) {new = new} {rest = rest} r listed s before top to right e fit go =
      let rule = (fits_of f id).rules r listed in
      let own = rule_at (thread_of id m) r in
      let over : new ++ rest ≡ stack id (put own.right w) below = let p = placed id own.right w below in cc in
      let h = go ends (own.after.0 ∷ qs) (put own.right w) to over (put_fits own.right w rule.symbols fit.1) in
      let applies : Applies (thread_of id m) r q x = record { listed = listed; state = before; symbol = alike id own.symbol.0 x cc } in
      record { state = s; ended = h.ended; left = h.left; phase = act applies h.phase; rest = h.rest }

  -- .. or a pass.
  going : (ends : List ℕ) (q : ℕ) (qs w : List ℕ) {n : State} {top : ℕ} {new rest : List ℕ} → StateOf m (cell ends (q ∷ qs))
      → Kind m (record { state = cell ends (q ∷ qs); top = top; next = n; new = new }) → top ∷ rest ≡ stack id w below → Symbols w
      → Goes n (new ++ rest) → Half ends (q ∷ qs) w
  going ends q qs w s (acts a) e fit go =
      let rule = (fits_of f a.id).rules a.number a.listed in
      let same = only a.id id (symbol _ rule.top a.symbol) (top_of id w below fit e) in
      let before = rw same at a.before ∙ get_or-append_seam ends q qs 0 in
      let to = rw (same, set-append_seam) at a.after in
      acting ends q qs w a.number (rw same at a.listed) s before (rw same at a.symbol) to (rw same at a.right) e fit go
  going ends q qs w s (passes a) e fit go =
      let h = go (ends ++ (q ∷ [])) qs w (a.after ∙ sym (next_cell ends q qs)) (rw a.right e) fit in
      let on = rw (append_snoc ends q h.ended) at h.rest in
      record { state = s; ended = q ∷ h.ended; left = h.left; phase = pass h.phase; rest = on }
  going ends q qs w s (closes a) e fit go = absurd (omega (arith, turns ends (q ∷ qs) s, a.turn))
  going ends q qs w s (begins a) e fit go = absurd (omega (arith, a.symbol, low id (top_of id w below fit e)))

  -- So it does by every rule ..
  ruled : (ends qs w : List ℕ) {n : State} {top : ℕ} {new rest : List ℕ}
      → Allowed m (record { state = cell ends qs; top = top; next = n; new = new }) → top ∷ rest ≡ stack id w below → Symbols w
      → Ends n (new ++ rest) → Goes n (new ++ rest) → Half ends qs w
  ruled ends [] w a e fit r go = closed ends w a.state a.kind e fit r
  ruled ends (q ∷ qs) w a e fit r go = going ends q qs w a.state a.kind e fit go

  -- .. all along a run ..
  goes : {s : State} {u v : List ℕ} → Run (Allowed m) s u t v → (o : List ℕ) → v ≡ closing B ∷ o → Goes s u
  goes stop o k ends qs w h e fit = absurd (omega (arith, low id (top_of id w below fit (sym k ∙ e))))
  goes (step a r) o k ends qs w h e fit =
      ruled ends qs w (rw h at a) e fit (o, rw k at r) (λ fs ps v i j x. goes r o k fs ps v i j x)

  -- .. from the first turn on.
  pub found : (qs w : List ℕ) → Symbols w → Ends (at 1 qs) (stack id w below) → Half [] qs w
  found qs w fit r = goes r.1 r.0 refl [] qs w refl refl fit
