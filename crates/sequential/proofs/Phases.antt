-- A thread's part of a run is its turns in a row, each from the state where the other thread's turn left off. So a run of K rounds is two
-- such parts that fit: B begins its turns where A ends them, and A all but the first where B ends them.
use mathlib.Core.Bool.{Bool, false}
use mathlib.Core.List.{List, [], ◌∷◌, ◌++◌}
use mathlib.Core.Logic.{◌↔◌}
use mathlib.Core.Path.{◌≡◌, refl, sym, ap, ◌∙◌}
use Prim.Native.Nat.{ℕ, zero, suc, ◌*◌}
use native.Mathlib.Omega.{arith}
use lib.ListN.{length, length-append}
use Rattle.model.specs.declared.Model.{Model}
use Rattle.model.specs.declared.Thread.{Thread}
use Rattle.model.specs.declared.ThreadId.{ThreadId}
use Rattle.model.specs.declared.ThreadId.TheVariants.{A, B}
use Rattle.std.specs.Prelude.{None}
use Rattle.model.specs.Fits.{Fits}
use Rattle.model.specs.Lines.{States}
use Rattle.model.specs.Rules.{rule_at, put, held_at}
use Rattle.model.specs.Runs.{Marked}
use Rattle.model.specs.Walk.{other, owner_of, thread_of, Step}
use Rattle.model.proofs.Inside.{Applies, applies_iff, inside}
use Rattle.model.proofs.Ranges.{valid_fits}
use Rattle.costs.specs.View.{View, stop, skip, end, move}
use Rattle.costs.proofs.Views.{marked_views, skips, apart}
use Rattle.sequential.specs.Allowed.{at, StateOf}
use Rattle.sequential.specs.Rounds.{round_ends, Rounds}

-- A thread's turns: the states in which they begin, its stack, and the states in which they end.
pub data Phase (t : Thread) : List ℕ → List ℕ → List ℕ → Type 0 where
  -- there are no more turns
  done : {w : List ℕ} → Phase t [] w []
  -- the turn ends here
  pass : {q : ℕ} {qs w es : List ℕ} → Phase t qs w es → Phase t (q ∷ qs) w (q ∷ es)
  -- a step, after which the turn goes on
  act : {r q top : ℕ} {qs w es : List ℕ} → Applies t r q top
      → Phase t ((rule_at t r).after.0 ∷ qs) (put (rule_at t r).right w) es → Phase t (q ∷ qs) (top ∷ w) es

-- No rule of a thread is held.
abbrev pub Unheld : Model → Type 0
Unheld m = (id : ThreadId) (r : ℕ) → held_at (thread_of id m) r ≡ false

-- The states of a line at which its rounds are half made: of each two turns the first.
abbrev firsts : List ℕ → List ℕ
firsts [] = []
firsts (x ∷ []) = []
firsts (x ∷ y ∷ line) = x ∷ firsts line

-- The other of the other thread is the thread itself.
back : (id : ThreadId) → other (other id) ≡ id
back A = refl
back B = refl

module _ {m : Model} {id : ThreadId} where
  -- A thread's view of a line is its turns in a row: from a turn of its own on ..
  own : {t q a : ℕ} {held : Bool} {w line qs es : List ℕ} {ss : List Step} → View m id None t held q w (a ∷ line) ss → owner_of t ≡ id
      → ((v : List ℕ) (zs : List Step) → View m id None (suc t) false a v line zs → Phase (thread_of id m) qs v es)
      → Phase (thread_of id m) (q ∷ qs) w (a ∷ es)
  own (skip h v) e go = absurd (apart id (sym e ∙ h))
  own (end h v) e go = pass (go _ _ v)
  own (move h k v) e go = act ((applies_iff _ _ _ _).0 k) (own v e go)

  -- .. and from one of the other's.
  others : (line : List ℕ) {t q : ℕ} {w : List ℕ} {ss : List Step} → View m id None t false q w line ss → owner_of t ≡ other id
      → Phase (thread_of id m) (firsts line) w (round_ends line)
  others [] v e = done
  others (o ∷ []) v e = done
  others (o ∷ a ∷ line) v e =
      own (skips v e) (ap other e ∙ back id) (λ u zs r. others line r (ap other (ap other e ∙ back id)))

  -- Its turns in a row are a view of a line where none of its rules is held: from a turn of its own on ..
  own_view : {t q a : ℕ} {w line qs es : List ℕ} → ((r : ℕ) → held_at (thread_of id m) r ≡ false)
      → Phase (thread_of id m) (q ∷ qs) w (a ∷ es) → owner_of t ≡ id
      → ((v : List ℕ) → Phase (thread_of id m) qs v es → (zs : List Step) × View m id None (suc t) false a v line zs)
      → (ss : List Step) × View m id None t false q w (a ∷ line) ss
  own_view free (pass p) e go = let v = go _ p in (v.0, end e v.1)
  own_view {t} free (act {r = r} h p) e go =
      let v = own_view free p e go in
      (record { turn = t; rule = r } ∷ v.0, move e ((applies_iff _ _ _ _).1 h) (rw (← free r) at v.1))

  -- .. and from one of the other's.
  others_view : (line : List ℕ) {t q : ℕ} {w : List ℕ} → ((r : ℕ) → held_at (thread_of id m) r ≡ false)
      → Phase (thread_of id m) (firsts line) w (round_ends line) → owner_of t ≡ other id → (ss : List Step) × View m id None t false q w line ss
  others_view [] free p e = ([], stop tt)
  others_view (o ∷ []) free p e = ([], skip e (stop tt))
  others_view (o ∷ a ∷ line) free p e =
      let next = ap other e ∙ back id in
      let v = own_view free p next (λ u r. others_view line free r (ap other next)) in
      (v.0, skip e v.1)

-- A thread ends as many turns as it begins.
phase_length : {t : Thread} {qs w es : List ℕ} → Phase t qs w es → length es ≡ length qs
phase_length done = refl
phase_length (pass p) = ap suc (phase_length p)
phase_length (act h p) = phase_length p

-- A line of n rounds has n states at which they end.
ends_length : (line : List ℕ) (n : ℕ) → length line ≡ 2 * n → length (round_ends line) ≡ n
ends_length [] n h = omega arith
ends_length (x ∷ []) n h = absurd (omega arith)
ends_length (x ∷ y ∷ line) zero h = absurd (omega arith)
ends_length (x ∷ y ∷ line) (suc n) h = ap suc (ends_length line n (omega arith))

-- Of states below g every second one is too.
firsts_states : (g : ℕ) (line : List ℕ) → States g line → States g (firsts line)
firsts_states g [] s = tt
firsts_states g (x ∷ []) s = tt
firsts_states g (x ∷ y ∷ line) s = (s.0, firsts_states g line s.1.1)

-- Seen from the second turn on, the first of each two turns ends where a round ends, and the second where one is half made.
later : (a : ℕ) (line gs : List ℕ) (e : ℕ) → length (a ∷ line) ≡ 2 * suc (length gs) → round_ends (a ∷ line) ≡ gs ++ (e ∷ [])
    → (firsts line ≡ gs) × (firsts (a ∷ line) ≡ a ∷ round_ends line)
later a [] gs e h k = absurd (omega arith)
later a (b ∷ []) [] e h k = (refl, refl)
later a (b ∷ []) (g ∷ gs) e h k = absurd (omega arith)
later a (b ∷ c ∷ line) [] e h k = absurd (omega arith)
later a (b ∷ c ∷ line) (g ∷ gs) e h k =
    let r = later c line gs e (omega arith) cc in
    let same : b ≡ g = cc in
    (rw (same, r.0) refl, rw r.1 refl)

-- The line of rounds that are half made at these states and end at those.
woven : (xs ys : List ℕ) → length xs ≡ length ys
    → (line : List ℕ) × (length line ≡ 2 * length ys) × (firsts line ≡ xs) × (round_ends line ≡ ys)
woven [] [] h = ([], refl, refl, refl)
woven [] (y ∷ ys) h = absurd (omega arith)
woven (x ∷ xs) [] h = absurd (omega arith)
woven (x ∷ xs) (y ∷ ys) h =
    let r = woven xs ys (omega arith) in
    (x ∷ y ∷ r.0, omega (arith, r.1), rw r.2 refl, rw r.3 refl)

-- The two threads' parts of a run of K rounds, A's from K states of the model, with A's ends between them.
pub record Parts (m : Model) (gs : List ℕ) (e : ℕ) : Type 0 where
  pub state : StateOf m (at 1 (m.start.0 ∷ gs))
  pub middle : List ℕ
  pub a : Phase m.a (m.start.0 ∷ gs) (m.a.first.0 ∷ []) middle
  pub b : Phase m.b middle (m.b.first.0 ∷ []) (gs ++ (e ∷ []))

-- The parts of a run along a line ..
parts_of : {m : Model} {gs : List ℕ} {e : ℕ} → Fits m → (line : List ℕ) → length line ≡ 2 * m.k → round_ends line ≡ gs ++ (e ∷ [])
    → Marked m line → Parts m gs e
parts_of f [] h k r = absurd (omega (arith, f.k.0))
parts_of {m} {gs} {e} f (a ∷ line) h k r =
    let v = (marked_views (a ∷ line)).0 r in
    let count : suc (length gs) ≡ m.k = let z = rw (k, length-append) at (ends_length (a ∷ line) m.k h) in omega arith in
    let s = later a line gs e (omega arith) k in
    let states = inside ((valid_fits m).1 f) f.start r.2 in
    let below = rw s.0 at (firsts_states m.g line states.1) in
    record {
      state = record { low = omega arith; high = omega arith; count = count; below = (f.start, below) };
      middle = a ∷ round_ends line;
      a = rw (← s.0) (own v.2 refl (λ u zs x. others line x refl));
      b = rw (← s.1, ← k) (others (a ∷ line) v.3 refl);
    }

-- .. and the run of two parts.
marked_of : {m : Model} {gs : List ℕ} {e : ℕ} → Unheld m → (p : Parts m gs e) (line : List ℕ) → length line ≡ 2 * suc (length gs)
    → firsts line ≡ p.middle → round_ends line ≡ gs ++ (e ∷ []) → Marked m line
marked_of free p [] h i k = absurd (omega arith)
marked_of {m} {gs} {e} free p (a ∷ line) h i k =
    let s = later a line gs e h k in
    let begun : Phase m.a (m.start.0 ∷ firsts line) (m.a.first.0 ∷ []) (a ∷ round_ends line) = rw (s.0, ← s.1, i) p.a in
    let v = own_view {m = m} {id = A} {t = 0} (free A) begun refl (λ u r. others_view line (free A) r refl) in
    let w = others_view {m = m} {id = B} (a ∷ line) {t = 0} (free B) (rw (← i, ← k) at p.b) refl in
    (marked_views (a ∷ line)).1 (v.0, w.0, v.1, w.1)

-- A run of K rounds is two parts that fit.
pub rounds_parts : {m : Model} {gs : List ℕ} {e : ℕ} → Fits m → Unheld m → Rounds m gs e ↔ Parts m gs e
rounds_parts {m} {gs} {e} f free = (
  λ r. parts_of f r.line r.full r.ends r.run,
  λ p.
      let count : length (gs ++ (e ∷ [])) ≡ m.k = rw length-append (omega (arith, p.state.count)) in
      let w = woven p.middle (gs ++ (e ∷ [])) (phase_length p.a ∙ p.state.count ∙ sym count) in
      let full : length w.0 ≡ 2 * m.k = w.1 ∙ ap (λ n. 2 * n) count in
      record {
        line = w.0;
        full = full;
        ends = w.3;
        run = marked_of free p w.0 (omega (arith, full, p.state.count)) w.2 w.3;
      },
)
