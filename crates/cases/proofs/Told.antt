-- What a closed set of abstract configurations tells of a model: Clear, or how many steps reach the target at least, and which lines are not
-- marked. A run that reaches the target is one along a full line that ends there, so it is at an abstract configuration of the set.
use mathlib.Core.Bool.{Bool, true, false, ◌&&◌, ◌||◌, not, cond}
use mathlib.Core.List.{List, [], ◌∷◌}
use mathlib.Core.Logic.{◌↔◌, inl, inr}
use mathlib.Core.Path.{◌≡◌, refl, sym, ◌∙◌}
use Prim.Native.Nat.{ℕ, suc, ◌+◌, ◌*◌, ◌^◌, ◌≤◌}
use native.Mathlib.Omega.{arith}
use lib.Dec.{T, T_not, leb, ltb, eqb, ltb→lt}
use lib.ListN.{length, replicate, length-replicate, drop_of_length-le}
use Rattle.model.specs.declared.Model.{Model}
use Rattle.model.specs.Bits.{bit_at}
use Rattle.model.specs.Lines.{Line, powers, bits, value, position, digits}
use Rattle.model.specs.Runs.{Reaches, Marked}
use Rattle.model.specs.Tables.{bytes_for, LineTable}
use Rattle.model.specs.Verdict.{clear, Judged, AtLeast}
use Rattle.model.specs.Walk.{Stacks, start_stacks, Step, has_top, under_tops, at_target}
use Rattle.model.proofs.Positions.{value_below, digits_value}
use Rattle.model.proofs.Tests.{both, order, equal}
use Rattle.model.proofs.Turns.{legal_full}
use Rattle.cases.proofs.Explored.{closed, arrives, passes}
use Rattle.cases.proofs.Abstracts.{Abstract, Describes}
use Rattle.cases.proofs.Scans.{either, all, alike, alike_refl, below, at_below}
use Rattle.cases.proofs.Search.{finds, finds_run}
use Rattle.cases.proofs.Shapes.{may_have, may_have_lem}

-- A run may stop at an abstract configuration, its shared state is the target's, and its stacks may have the tops that are named.
abbrev pub on_target : Model → Abstract → Bool
on_target m c = not c.held && eqb c.shared m.target.0 && (may_have m.a.top c.a && may_have m.b.top c.b)

-- No abstract configuration may be at the target ..
unfoldable pub avoids : Model → List Abstract → Bool
avoids m set = all (λ c. not (on_target m c)) set

-- .. or none that fewer than n steps may lead to.
unfoldable pub delays : Model → ℕ → List Abstract → Bool
delays m n set = all (λ c. not (on_target m c) || leb n c.steps) set

-- No abstract configuration was come to along the line.
unfoldable pub absent : List Abstract → List ℕ → Bool
absent set line = all (λ c. not (alike c.line line)) set

-- A run along a line from the start is found, one with at most two steps more than it could have turn ends.
unfoldable pub followed : Model → List ℕ → Bool
followed m line = finds (2 * m.k + 2) m 0 false m.start.0 (start_stacks m) line

-- The bit of the line of n + 1 states whose value is v is right: where it stands a run is found, and where not the line is absent.
unfoldable pub bit_right : Model → List Abstract → List ℕ → ℕ → ℕ → Bool
bit_right m set store n v =
    let run = followed m (digits m.g (suc n) v) in
    let none = absent set (digits m.g (suc n) v) in
    cond (bit_at store (powers m.g n + v)) run none

-- So are those of all lines.
unfoldable pub bits_right : Model → List Abstract → List ℕ → Bool
bits_right m set store = below (2 * m.k) (λ n. below (m.g ^ suc n) (bit_right m set store n))

-- A store is the line table by its length, its bits and its spare bits.
unfoldable pub drawn : Model → List Abstract → List ℕ → Bool
drawn m set store =
    eqb (length store) (bytes_for m.g m.k) && bits_right m set store &&
    below (8 * bytes_for m.g m.k) (λ p. ltb p (bits m.g m.k) || not (bit_at store p))

-- A test that chooses between a thing's proof and its refutation decides it.
decided : (b x y : Bool) {X : Type 0} → T (cond b x y) → (T x → X) → (T y → X → ⊥) → T b ↔ X
decided true x y t proof refutation = (λ h. proof t, λ h. tt)
decided false x y t proof refutation = (λ h. absurd h, λ h. refutation t h)

-- A bit past the last line does not stand.
spared : (count : ℕ) (b : Bool) (p : ℕ) → count ≤ p → T (ltb p count || not b) → b ≡ false
spared count false p h t = refl
spared count true p h t =
    elim (either (ltb p count) false t) [ inl z ↦ absurd (omega (arith, ltb→lt p count z)) | inr z ↦ absurd z ]

-- A run that is at the target is described only by abstract configurations that may be.
on_target_lem : (m : Model) (c : Abstract) {line : List ℕ} {n q : ℕ} {σ : Stacks} → Describes c line n false q σ
    → T (at_target m q σ) → T (on_target m c)
on_target_lem m c {q = q} {σ = σ} d h =
    let w = (both (eqb q m.target.0) (under_tops m σ)).0 h in
    let u = (both (has_top m.a.top σ.a) (has_top m.b.top σ.b)).0 w.1 in
    let a = may_have_lem m.a.top c.a σ.a d.a u.0 in
    let b = may_have_lem m.b.top c.b σ.b d.b u.1 in
    rw (d.held, d.shared)
    ((both (eqb q m.target.0) (may_have m.a.top c.a && may_have m.b.top c.b)).1
    (w.0, (both (may_have m.a.top c.a) (may_have m.b.top c.b)).1 (a, b)))

module _ (m : Model) (limit : ℕ) (set : List Abstract) (t : T (closed m limit set)) where
  -- A run that reaches the target is at an abstract configuration that may be there, and that passes a test which all of the set pass.
  reached : 1 ≤ m.k → (ss : List Step) → Reaches m ss → (f : Abstract → Bool) → T (all f set)
      → (c : Abstract) × T (f c) × (c.steps ≤ length ss) × T (on_target m c)
  reached k ss r f h =
      let a = (legal_full ss r.shared r.stacks k).0 r.leads in
      let z = arrives m limit set t a.line ss (omega (arith, a.size)) a.turns in
      let c = passes f (rw a.last at z) h in
      (c.0, c.1, c.2.steps, on_target_lem m c.0 c.2 r.target)

  pub avoids_clear : 1 ≤ m.k → T (avoids m set) → Judged m clear
  unfolding avoids
  avoids_clear k h ss r =
      let c = reached k ss r (λ c. not (on_target m c)) h in T_not (on_target m c.0) c.1 c.3

  pub delays_least : (n : ℕ) → 1 ≤ m.k → T (delays m n set) → AtLeast m n
  unfolding delays
  delays_least n k h ss r =
      let c = reached k ss r (λ c. not (on_target m c) || leb n c.steps) h in
      elim (either (not (on_target m c.0)) (leb n c.0.steps) c.1) [
        | inl y ↦ absurd (T_not (on_target m c.0) y c.3)
        | inr y ↦ omega (arith, (order n c.0.steps).0 y, c.2)
      ]

  absent_unmarked : (line : List ℕ) → length line ≤ 2 * m.k → T (absent set line) → Marked m line → ⊥
  unfolding absent
  absent_unmarked line h a r =
      let c = passes (λ c. not (alike c.line line)) (arrives m limit set t line r.0 h r.2) a in
      T_not (alike c.0.line line) c.1 (rw c.2.line (alike_refl line))

  bits_right_lem : (store : List ℕ) → T (bits_right m set store) → (line : List ℕ) → Line m.g m.k line
      → T (bit_at store (position m.g line)) ↔ Marked m line
  unfolding bits_right bit_right followed
  bits_right_lem store h [] l = absurd (omega (arith, l.some))
  bits_right_lem store h (x ∷ xs) l =
      let line : List ℕ = x ∷ xs in
      let n : ℕ = length xs in
      let all = at_below (2 * m.k) (λ n. below (m.g ^ suc n) (bit_right m set store n)) h n (omega (arith, l.most)) in
      let one = at_below (m.g ^ suc n) (bit_right m set store n) all (value m.g line) (value_below m.g line l.states) in
      decided (bit_at store (position m.g line)) (followed m line) (absent set line)
      (rw (digits_value m.g line l.states) at one)
      (finds_run (2 * m.k + 2) m 0 false m.start.0 (start_stacks m) line)
      (absent_unmarked line l.most)

  pub drawn_lines : (store : List ℕ) → T (drawn m set store)
      → (length store ≡ bytes_for m.g m.k) × LineTable m (replicate (length store) 0) store
  unfolding drawn
  drawn_lines store h =
      let count : ℕ = bits m.g m.k in
      let bytes : ℕ = bytes_for m.g m.k in
      let free : ℕ → Bool = λ p. ltb p count || not (bit_at store p) in
      let w = (both (eqb (length store) bytes && bits_right m set store) (below (8 * bytes) free)).0 h in
      let v = (both (eqb (length store) bytes) (bits_right m set store)).0 w.0 in
      let size : length store ≡ bytes = (equal (length store) bytes).0 v.0 in
      let zeros : List ℕ = replicate (length store) 0 in
      let same : length zeros ≡ length store = simp length-replicate in (
        size,
        record {
          size = sym same;
          marks = bits_right_lem store v.1;
          spare = λ p l b. spared count (bit_at store p) p l (at_below (8 * bytes) free w.1 p b);
          beyond =
              drop_of_length-le store {i = bytes} (omega arith) ∙ sym (drop_of_length-le zeros {i = bytes} (omega arith));
        },
      )
