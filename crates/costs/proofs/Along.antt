-- One thread's view of a line is a run of the summaries' theory: its own steps are moves, and the end of its turn with the
-- other's turn after it is one switch. By recursion on the view and on the run, with the line read two states at a time.
use mathlib.Core.Bool.{Bool, false}
use mathlib.Core.List.{List, [], ◌∷◌}
use mathlib.Core.Logic.{◌↔◌}
use mathlib.Core.Path.{◌≡◌, refl, sym, ap, subst, ◌∙◌}
use Prim.Native.Nat.{ℕ, zero, suc, ◌+◌, ◌*◌, ◌≤◌, ◌<◌}
use native.Mathlib.Nat.{le_refl}
use native.Mathlib.Omega.{arith}
use lib.Dec.{T}
use lib.ListN.{length, get_or, drop, drop_of_length-le}
use lib.Seq.{drop-cons}
use Rattle.model.specs.declared.Model.{Model}
use Rattle.model.specs.declared.Right.{Right}
use Rattle.model.specs.Tops.{Top}
use Rattle.model.specs.Lines.{States}
use Rattle.model.specs.Rules.{put}
use Rattle.model.specs.declared.ThreadId.{ThreadId}
use Rattle.model.specs.declared.ThreadId.TheVariants.{A, B}
use Rattle.model.specs.Walk.{other, owner_of, thread_of, has_top, Step}
use Rattle.summary.specs.Control.{Control, TurnEnd, Moves, Switches, InTable, Inside}
use Rattle.summary.specs.Stretch.{Path}
use Rattle.summary.proofs.Leasts.{least_as}
use Rattle.costs.specs.Cost.{control, LeastAlong, ViewCost}
use Rattle.costs.specs.Ends.{turn_of, ends_of, first_state, last_state}
use Rattle.costs.specs.View.{View}
use Rattle.costs.proofs.Views.{apart, skips}

-- The line from the thread's own turn j on: turn n is its last, and ends in e; the other's turn may come after it.
data Own (ends : ℕ → TurnEnd) (n e : ℕ) : ℕ → List ℕ → Type 0 where
  last : {j o : ℕ} → j ≡ n → o ≡ e → Own ends n e j (o ∷ [])
  spare : {j o x : ℕ} → j ≡ n → o ≡ e → Own ends n e j (o ∷ x ∷ [])
  more : {j o x : ℕ} {line : List ℕ} → (ends j).leave ≡ o → (ends j).enter ≡ x → Own ends n e (suc j) line
      → Own ends n e j (o ∷ x ∷ line)

module _ {ends : ℕ → TurnEnd} {n e : ℕ} where
  -- A turn before the last, and a line that is not empty.
  below : {j : ℕ} {line : List ℕ} → Own ends n e j line → j ≤ n
  below (last a b) = omega arith
  below (spare a b) = omega arith
  below (more a b o) = omega (arith, below o)

  some : {j : ℕ} {line : List ℕ} → Own ends n e j line → line ≡ [] → ⊥
  some (last a b) h = let z : ◌≡◌ {A = ℕ} 0 1 = cc in omega arith
  some (spare a b) h = let z : ◌≡◌ {A = ℕ} 0 1 = cc in omega arith
  some (more a b o) h = let z : ◌≡◌ {A = ℕ} 0 1 = cc in omega arith

module _ {m : Model} {i : ThreadId} {top : Top} where
  -- After the line there are no steps, and the top is one that will do.
  over : {t g : ℕ} {held : Bool} {w line : List ℕ} {ss : List Step} → View m i top t held g w line ss → line ≡ []
      → (ss ≡ []) × T (has_top top w)
  over (View.stop k) h = (refl, k)
  over (View.skip p v) h = absurd (let z : ◌≡◌ {A = ℕ} 0 1 = cc in omega arith)
  over (View.end p v) h = absurd (let z : ◌≡◌ {A = ℕ} 0 1 = cc in omega arith)
  over (View.move p a v) h = absurd (let z : ◌≡◌ {A = ℕ} 0 1 = cc in omega arith)

  -- A turn that ends where the line says.
  ended : {t g o : ℕ} {held : Bool} {w line : List ℕ} {ss : List Step} → held ≡ false → g ≡ o → owner_of t ≡ i
      → View m i top (suc t) false g w line ss → View m i top t held g w (o ∷ line) ss
  ended {t} {g} {w = w} {line = line} {ss = ss} f h p v = rw f (subst (λ u. View m i top t false g w (u ∷ line) ss) h (View.end p v))

module _ {m : Model} {i : ThreadId} {top : Top} {turn : ℕ → ℕ} (own : (j : ℕ) → owner_of (turn j) ≡ i)
    (next : (j : ℕ) → turn (suc j) ≡ suc (suc (turn j))) {ends : ℕ → TurnEnd} {n e : ℕ} where
  -- A view from one of the thread's own turns on is a run.
  to : {t g j : ℕ} {held : Bool} {w line : List ℕ} {ss : List Step} → View m i top t held g w line ss → Own ends n e j line → turn j ≡ t
      → Path (Moves (thread_of i m) turn) (Switches ends n) top (record { passed = j; held = held; shared = g }) w ss (control n e)
  to (View.stop k) o h = absurd (some o refl)
  to {t} {j = j} (View.skip p v) o h = absurd (apart i (sym (own j) ∙ ap owner_of h ∙ p))
  to (View.move p a v) o h = Path.move (record { rule = a; right = refl; shared = refl; held = refl; passed = refl; turn = sym h }) (to v o h)
  to (View.end p (View.stop k)) (last a b) h = rw (a, b) (Path.stop k)
  to (View.end p (View.skip q v)) (spare a b) h = let k = over v refl in rw (a, b, k.0) (Path.stop k.1)
  to {j = j} (View.end p (View.skip q v)) (more a b o) h =
      Path.change (record { more = below o; free = refl; leave = sym a; enter = sym b; fresh = refl; passed = refl })
      (to v o (next j ∙ ap (λ u. suc (suc u)) h))
  to (View.end p (View.end q v)) o h = absurd (apart i (sym q ∙ ap other p))
  to (View.end p (View.move q a v)) o h = absurd (apart i (sym q ∙ ap other p))

  -- A step that the rules allow.
  moved : {c d : Control} {γ : ℕ} {s : Step} {x : Right} {w line : List ℕ} {ss : List Step}
      → Moves (thread_of i m) turn c γ s x d
      → Own ends n e c.passed line → View m i top (turn c.passed) d.held d.shared (put x w) line ss
      → View m i top (turn c.passed) c.held c.shared (γ ∷ w) line (s ∷ ss)
  moved {c} {s = s} {line = []} r o v = absurd (some o refl)
  moved {c} {s = s} {line = g ∷ line} r o v =
      let same : s ≡ record { turn = turn c.passed; rule = s.rule } =
      ap {B = Step} (λ (u : ℕ). record { turn = u; rule = s.rule }) r.turn in
      rw same (View.move (own c.passed) r.rule (rw (r.held, r.shared, ← r.right) at v))

  -- A run is a view.
  from : {c d : Control} {w line : List ℕ} {ss : List Step} → Path (Moves (thread_of i m) turn) (Switches ends n) top c w ss d
      → d ≡ control n e → Own ends n e c.passed line → View m i top (turn c.passed) c.held c.shared w line ss
  from {c} (Path.stop k) h (last a b) =
      ended (ap (λ (d : Control). d.held) h) (ap (λ (d : Control). d.shared) h ∙ sym b) (own c.passed) (View.stop k)
  from {c} (Path.stop k) h (spare a b) =
      ended (ap (λ (d : Control). d.held) h) (ap (λ (d : Control). d.shared) h ∙ sym b) (own c.passed)
      (View.skip (ap other (own c.passed)) (View.stop k))
  from {c} (Path.stop k) h (more a b o) = absurd (omega (arith, below o, ap (λ (d : Control). d.passed) h))
  from {line = line} (Path.move r p) h o = moved r o (rw r.passed at (from {line = line} p h (rw r.passed o)))
  from (Path.change r p) h (last a b) = absurd (omega (arith, r.more))
  from (Path.change r p) h (spare a b) = absurd (omega (arith, r.more))
  from {c} (Path.change r p) h (more {line = line} a b o) =
      let v = from {line = line} p h (rw r.passed o) in
      ended r.free (r.leave ∙ a) (own c.passed)
      (View.skip (ap other (own c.passed)) (rw (r.passed, r.fresh, r.enter, b, next) at v))

-- A thread's own turns: two apart, its own, and not late.
turn_next : (i : ThreadId) (j : ℕ) → turn_of i (suc j) ≡ suc (suc (turn_of i j))
turn_next A j = omega arith
turn_next B j = omega arith

turn_own : (i : ThreadId) (j : ℕ) → owner_of (turn_of i j) ≡ i
turn_own A zero = refl
turn_own B zero = refl
turn_own A (suc j) = rw (turn_next A j, turn_own A j)
turn_own B (suc j) = rw (turn_next B j, turn_own B j)

turn_low : (i : ThreadId) (j : ℕ) → turn_of i j ≤ suc (2 * j)
turn_low A j = omega arith
turn_low B j = omega arith

-- The line from each of a thread's own turns on.
owns : (i : ThreadId) (line : List ℕ) (n : ℕ) → length line ≡ 2 * suc n → (k j : ℕ) → j + k ≡ n
    → Own (ends_of i line) n (last_state i n line) j (drop (turn_of i j) line)
owns A line n h zero j e =
    let same : j ≡ n = omega arith in
    let done : drop (suc (suc (2 * j))) line ≡ [] = drop_of_length-le line {i = suc (suc (2 * j))} (omega arith) in
    rw (drop-cons line (2 * j) 0 (omega arith), drop-cons line (suc (2 * j)) 0 (omega arith), done)
    (spare same (ap (λ (u : ℕ). get_or line (2 * u) 0) same))
owns B line n h zero j e =
    let same : j ≡ n = omega arith in
    let done : drop (suc (2 * j + 1)) line ≡ [] = drop_of_length-le line {i = suc (2 * j + 1)} (omega arith) in
    rw (drop-cons line (2 * j + 1) 0 (omega arith), done)
    (last same (ap (λ (u : ℕ). get_or line (2 * u + 1) 0) same))
owns i line n h (suc k) j e =
    let l = turn_low i j in
    rw (drop-cons line (turn_of i j) 0 (omega arith), drop-cons line (suc (turn_of i j)) 0 (omega arith), ← turn_next i j)
    (more refl refl (owns i line n h k (suc j) (omega arith)))

-- A thread's view from its first turn on is a run.
from_first : (m : Model) (i : ThreadId) (top : Top) (n g : ℕ) (w line : List ℕ) (ss : List Step) → length line ≡ 2 * suc n
    → View m i top (turn_of i 0) false g w (drop (turn_of i 0) line) ss
    ↔ Path (Moves (thread_of i m) (turn_of i)) (Switches (ends_of i line) n) top (control 0 g) w ss (control n (last_state i n line))
from_first m i top n g w line ss h =
    let o = owns i line n h n 0 (omega arith) in
    (λ v. to (turn_own i) (turn_next i) v o refl, λ p. from (turn_own i) (turn_next i) p refl o)

-- One thread's view of a full line is a run of the thread along the line's turn ends, with the same steps.
pub line_view : (m : Model) (i : ThreadId) (top : Top) (n g : ℕ) (w line : List ℕ) (ss : List Step) → length line ≡ 2 * suc n
    → View m i top 0 false g w line ss
    ↔ Path (Moves (thread_of i m) (turn_of i)) (Switches (ends_of i line) n) top (control 0 (first_state i g line)) w ss
    (control n (last_state i n line))
line_view m A top n g w line ss h = from_first m A top n g w line ss h
line_view m B top n g w [] ss h = absurd (omega arith)
line_view m B top n g w (x ∷ line) ss h =
    let f = from_first m B top n x w (x ∷ line) ss h in
    (λ v. f.0 (skips v refl), λ p. View.skip refl (f.1 p))

-- So the least steps of its runs along a full line are those of its views of it.
pub view_cost : (m : Model) (i : ThreadId) (top : Top) (n : ℕ) (line : List ℕ) (cost : ℕ) → length line ≡ 2 * suc n
    → LeastAlong (thread_of i m) top i n m.start.0 line cost ↔ ViewCost m i top line cost
view_cost m i top n line cost size = (
  least_as (λ ss. (line_view m i top n m.start.0 _ line ss size).1) (λ ss. (line_view m i top n m.start.0 _ line ss size).0),
  least_as (λ ss. (line_view m i top n m.start.0 _ line ss size).0) (λ ss. (line_view m i top n m.start.0 _ line ss size).1),
)

-- A state of a line.
state_at_lem : (G : ℕ) (line : List ℕ) → States G line → (k : ℕ) → k < length line → get_or line k 0 < G
state_at_lem G [] l k h = absurd (omega arith)
state_at_lem G (x ∷ line) l zero h = l.0
state_at_lem G (x ∷ line) l (suc k) h = state_at_lem G line l.1 k (omega arith)

module _ (i : ThreadId) {G : ℕ} (n : ℕ) (line : List ℕ) (size : length line ≡ 2 * suc n) (states : States G line) where
  -- The turn ends of a line of states below G are states below G.
  pub ends_inside : Inside G n (ends_of i line)
  ends_inside j h =
      let l = turn_low i j in
      (state_at_lem G line states (turn_of i j) (omega arith), state_at_lem G line states (suc (turn_of i j)) (omega arith))

  module _ {controls : ℕ} (four : G ≤ 4) (states-in : G ≤ controls) where
    -- A thread's run along the line starts at a control of the table, which has those of G states.
    pub first_inside : (g : ℕ) → g < G → InTable controls n (control 0 (first_state i g line))
    first_inside g h = record { passed = omega arith; shared = omega (arith, low i); number = omega (arith, low i) }
      where
        low : (i : ThreadId) → first_state i g line < G
        low A = h
        low B = state_at_lem G line states 0 (omega arith)

    -- It ends at one.
    pub last_inside : InTable controls n (control n (last_state i n line))
    last_inside =
        let l = turn_low i n in
        let low = state_at_lem G line states (turn_of i n) (omega arith) in
        record { passed = le_refl n; shared = omega (arith, low); number = omega (arith, low) }
