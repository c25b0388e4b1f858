-- Abstract configurations: what is known of a run so far. The next ones are computed, and a run that one of them describes comes to
-- one that a next one describes, whatever it does.
use mathlib.Core.Bool.{Bool, true, false, ◌&&◌, not, cond}
use mathlib.Core.List.{List, [], ◌∷◌, ◌++◌, map}
use mathlib.Core.Path.{◌≡◌, refl, sym, ap, ◌∙◌}
use Prim.Native.Nat.{ℕ, zero, suc, ◌*◌, ◌<◌, ◌≤◌}
use native.Mathlib.Decide.{ℕ_discrete}
use native.Mathlib.Omega.{arith}
use borrow.Author.Tests.{lt-ltb}
use lib.Dec.{T, leb, ltb, eqb}
use lib.ListN.{length}
use Rattle.model.specs.declared.Model.{Model}
use Rattle.model.specs.declared.Rule.{Rule}
use Rattle.model.specs.declared.Thread.{Thread}
use Rattle.model.specs.Rules.{rule_at, applies, put, held_at}
use Rattle.model.specs.declared.ThreadId.{ThreadId}
use Rattle.model.specs.declared.ThreadId.TheVariants.{A, B}
use Rattle.model.specs.Walk.{owner_of, thread_of, rule_of, Stacks, stack_of, with_stack}
use Rattle.model.proofs.Tests.{passed, both, equal, tests}
use Rattle.cases.proofs.Scans.{all, all_append, all_map, alike, alike_same}
use Rattle.cases.proofs.Shapes.{Shape, Matches, under, under_matches, fired, fired_matches}

-- The states at which turns ended, a number of steps that were at least made, whether a held step was just made, the shared state,
-- and what is known of the stacks.
pub record Abstract : Type 0 where
  pub line : List ℕ
  pub steps : ℕ
  pub held : Bool
  pub shared : ℕ
  pub a : Shape
  pub b : Shape

-- An abstract configuration describes a run so far: where its turns ended, its steps and whether the last one is held, and the shared
-- state and stacks it has come to.
pub record Describes (c : Abstract) (before : List ℕ) (n : ℕ) (flag : Bool) (q : ℕ) (σ : Stacks) : Type 0 where
  pub line : c.line ≡ before
  pub steps : c.steps ≤ n
  pub held : c.held ≡ flag
  pub shared : c.shared ≡ q
  pub a : Matches c.a σ.a
  pub b : Matches c.b σ.b

-- Two flags agree.
abbrev pub agree : Bool → Bool → Bool
agree true y = y
agree false y = not y

agree_same : (x y : Bool) → T (agree x y) → x ≡ y
agree_same true true t = refl
agree_same true false t = absurd t
agree_same false true t = absurd t
agree_same false false t = refl

-- One abstract configuration says no less than another.
abbrev pub within : Abstract → Abstract → Bool
within c d =
    eqb c.shared d.shared && leb d.steps c.steps && under c.a d.a && under c.b d.b &&
    alike c.line d.line && agree c.held d.held

pub within_describes : (c d : Abstract) {line : List ℕ} {n q : ℕ} {held : Bool} {σ : Stacks} → T (within c d)
    → Describes c line n held q σ → Describes d line n held q σ
within_describes c d {σ = σ} t h =
    let w = simp tests at t in
    record {
      line = sym (alike_same c.line d.line w.0.1) ∙ h.line;
      steps = omega (arith, h.steps, w.0.0.0.0.1);
      held = sym (agree_same c.held d.held w.1) ∙ h.held;
      shared = sym w.0.0.0.0.0 ∙ h.shared;
      a = under_matches c.a d.a σ.a w.0.0.0.1 h.a;
      b = under_matches c.b d.b σ.b w.0.0.1 h.b;
    }

-- A step more. Steps are counted up to a limit, so that there are few abstract configurations, however long the runs.
abbrev pub counted : ℕ → ℕ → ℕ
counted limit n = cond (ltb n limit) (suc n) n

-- What is known of a thread's stack.
abbrev pub shape_of : ThreadId → Abstract → Shape
shape_of A c = c.a
shape_of B c = c.b

-- The abstract configuration after a step of a thread, held or not, to state q that leaves its stack so.
abbrev pub moved : ℕ → ThreadId → Abstract → Bool → ℕ → Shape → Abstract
moved limit A c held q s =
    record { line = c.line; steps = counted limit c.steps; held = held; shared = q; a = s; b = c.b }
moved limit B c held q s =
    record { line = c.line; steps = counted limit c.steps; held = held; shared = q; a = c.a; b = s }

-- The abstract configurations after a step by a rule, held or not.
abbrev pub by_rule : ℕ → ThreadId → Abstract → Bool → Rule → List Abstract
by_rule limit i c held r =
    cond (eqb r.before.0 c.shared) (map (moved limit i c held r.after.0) (fired r.symbol.0 r.right (shape_of i c))) []

-- The abstract configurations after a step by one of the first n rules.
abbrev pub by_rules : ℕ → ThreadId → Abstract → Thread → ℕ → List Abstract
by_rules limit i c t zero = []
by_rules limit i c t (suc r) = by_rule limit i c (held_at t r) (rule_at t r) ++ by_rules limit i c t r

-- The abstract configurations after a step in turn t.
abbrev pub in_turn : ℕ → Model → Abstract → ℕ → List Abstract
in_turn limit m c t = by_rules limit (owner_of t) c (thread_of (owner_of t) m) (thread_of (owner_of t) m).count

-- The abstract configuration after the turn's end.
abbrev pub ended : Abstract → Abstract
ended c =
    record { line = c.line ++ (c.shared ∷ []); steps = c.steps; held = false; shared = c.shared; a = c.a; b = c.b }

-- A turn does not end after a held step.
abbrev pub at_end : Abstract → List Abstract
at_end c = cond c.held [] (ended c ∷ [])

-- The next abstract configurations: the turn ends, if it may, or its thread makes a step. After the last turn there
-- is none.
unfoldable pub next : Model → ℕ → Abstract → List Abstract
next m limit c =
    let on = at_end c ++ in_turn limit m c (length c.line) in
    cond (ltb (length c.line) (2 * m.k)) on []

-- At most one step more is counted.
counted_most : (limit k n : ℕ) → k ≤ n → counted limit k ≤ suc n
counted_most limit k n h = go (ltb k limit)
  where
    go : (b : Bool) → cond b (suc k) k ≤ suc n
    go true = omega arith
    go false = omega arith

moved_describes : (limit : ℕ) (i : ThreadId) (c : Abstract) (kept : Bool) (h : ℕ) (s : Shape) (w : List ℕ)
    {line : List ℕ} {n q : ℕ} {held : Bool} {σ : Stacks}
    → Describes c line n held q σ → Matches s w → Describes (moved limit i c kept h s) line (suc n) kept h (with_stack i w σ)
moved_describes limit A c kept h s w {n = n} p o =
    record { line = p.line; steps = counted_most limit c.steps n p.steps; held = refl; shared = refl; a = o; b = p.b }
moved_describes limit B c kept h s w {n = n} p o =
    record { line = p.line; steps = counted_most limit c.steps n p.steps; held = refl; shared = refl; a = p.a; b = o }

shape_matches : (i : ThreadId) (c : Abstract) {line : List ℕ} {n q : ℕ} {held : Bool} {σ : Stacks} → Describes c line n held q σ
    → Matches (shape_of i c) (stack_of i σ)
shape_matches A c p = p.a
shape_matches B c p = p.b

module _ (f : Abstract → Bool) (limit : ℕ) (i : ThreadId) (c : Abstract) {line : List ℕ} {n q : ℕ} {held : Bool} {σ : Stacks}
    (p : Describes c line n held q σ) where
  -- One after a step by a rule, held or not: it passes a test that all of those after the rule pass, and describes the run.
  abbrev After : Bool → Rule → List ℕ → Type 0
  After kept r w = (d : Abstract) × T (f d) × Describes d line (suc n) kept r.after.0 (with_stack i (put r.right w) σ)

  by_rule_lem : (kept : Bool) (r : Rule) (γ : ℕ) (w : List ℕ) → stack_of i σ ≡ γ ∷ w → r.before.0 ≡ q → r.symbol.0 ≡ γ
      → T (all f (by_rule limit i c kept r)) → After kept r w
  by_rule_lem kept r γ w e h l t =
      let to : Shape → Abstract = moved limit i c kept r.after.0 in
      let shapes : List Shape = fired r.symbol.0 r.right (shape_of i c) in
      let same = passed (eqb r.before.0 c.shared) ((equal r.before.0 c.shared).1 (h ∙ sym p.shared)) in
      let u : T (all f (map to shapes)) = rw same at t in
      let o : Matches (shape_of i c) (r.symbol.0 ∷ w) = rw (e, ← l) at (shape_matches i c p) in
      let z = fired_matches (λ s. f (to s)) r.symbol.0 r.right (shape_of i c) w o (all_map f to shapes u) in
      (to z.0, z.1, moved_describes limit i c kept r.after.0 z.0 (put r.right w) p z.2)

  by_rules_lem : (t : Thread) (count r γ : ℕ) (w : List ℕ) → r < count → stack_of i σ ≡ γ ∷ w
      → (rule_at t r).before.0 ≡ q → (rule_at t r).symbol.0 ≡ γ → T (all f (by_rules limit i c t count))
      → After (held_at t r) (rule_at t r) w
  by_rules_lem t zero r γ w b e h l u = absurd (omega arith)
  by_rules_lem t (suc last) r γ w b e h l u =
      let v = all_append f (by_rule limit i c (held_at t last) (rule_at t last)) (by_rules limit i c t last) u in
      elim (ℕ_discrete r last) [
        | yes s ↦ by_rule_lem (held_at t r) (rule_at t r) γ w e h l (rw (sym s) at v.0)
        | no s ↦ by_rules_lem t last r γ w (omega arith) e h l v.1
      ]

module _ (f : Abstract → Bool) (m : Model) (limit : ℕ) (c : Abstract) {line : List ℕ} {n q : ℕ} {held : Bool} {σ : Stacks}
    (p : Describes c line n held q σ) (more : length line < 2 * m.k) (u : T (all f (next m limit c))) where
  -- A test that all next abstract configurations pass, where a turn is left.
  onward : T (all f (at_end c)) × T (all f (in_turn limit m c (length line)))
  unfolding next
  onward =
      let same : length c.line ≡ length line = ap length p.line in
      let v : T (all f (at_end c ++ in_turn limit m c (length line))) = rw (same, lt-ltb (length line) (2 * m.k) more) at u in
      all_append f (at_end c) (in_turn limit m c (length line)) v

  -- The turn ends, if not after a held step ..
  pub next-end : held ≡ false → T (f (ended c)) × Describes (ended c) (line ++ (q ∷ [])) n false q σ
  next-end e =
      let v : T (f (ended c) && true) = rw (p.held, e) at onward.0 in (
        ((both (f (ended c)) true).0 v).0,
        record { line = cc (p.line, p.shared); steps = p.steps; held = refl; shared = p.shared; a = p.a; b = p.b },
      )

  -- .. or its thread makes a step.
  pub next_move : (t : ℕ) → length line ≡ t → (r γ : ℕ) (w : List ℕ) → stack_of (owner_of t) σ ≡ γ ∷ w
      → T (applies (thread_of (owner_of t) m) r q γ)
      → (d : Abstract) × T (f d)
      × Describes d line (suc n) (held_at (thread_of (owner_of t) m) r) (rule_of m t r).after.0
      (with_stack (owner_of t) (put (rule_of m t r).right w) σ)
  unfolding applies
  next_move t z r γ w e a =
      let i : ThreadId = owner_of t in
      let v : T (all f (in_turn limit m c t)) = rw z at onward.1 in
      let h = simp tests at a in
      by_rules_lem f limit i c p (thread_of i m) (thread_of i m).count r γ w h.0.0 e h.0.1 h.1 v
