-- One step of the walk, read both ways: a step is made exactly if its turn number fits, no turn is left after a
-- held step, its thread's stack has a top and its rule applies there.
use mathlib.Core.List.{List, [], ◌∷◌}
use mathlib.Core.Path.{◌≡◌, refl}
use Prim.Native.Nat.{ℕ, ◌*◌, ◌≤◌, ◌<◌}
use lib.Dec.{T, leb, ltb, leb→le, ltb→lt}
use borrow.Author.Tests.{le-leb, lt-ltb}
use Rattle.model.specs.declared.Model.{Model}
use Rattle.model.specs.Results.{accepted}
use Rattle.model.specs.Rules.{applies}
use Rattle.model.specs.Walk.{owner_of, thread_of, stack_of, Config, Step, turn_fits, turn_free, after, fire, step_from}
use Rattle.model.proofs.Results.{apart, checked}
use Rattle.model.proofs.Tests.{passed, both}

-- What a step of the walk that arrives at d has met.
pub record Stepped (m : Model) (c : Config) (s : Step) (d : Config) : Type 0 where
  pub later : c.turn ≤ s.turn
  pub early : s.turn < 2 * m.k
  pub free : T (turn_free c s)
  pub top : ℕ
  pub below : List ℕ
  pub stack : stack_of (owner_of s.turn) c.stacks ≡ top ∷ below
  pub rule : T (applies (thread_of (owner_of s.turn) m) s.rule c.shared top)
  pub come : d ≡ after m c s below

-- A step that meets all of it is made.
pub steps : {m : Model} {c : Config} {s : Step} {d : Config} → Stepped m c s d → step_from m c s ≡ accepted d
unfolding step_from turn_fits fire
steps {m} {c} {s} {d} h =
    rw (
      le-leb _ _ h.later,
      lt-ltb _ _ h.early,
      passed (turn_free c s) h.free,
      h.stack,
      passed (applies (thread_of (owner_of s.turn) m) s.rule c.shared h.top) h.rule,
      h.come,
    )

-- A rule that a thread made a step by had a top to act on.
fired : (m : Model) (c : Config) (s : Step) (w : List ℕ) {d : Config}
    → fire m c s w ≡ accepted d
    → (top : ℕ) × (below : List ℕ) × (w ≡ top ∷ below)
    × T (applies (thread_of (owner_of s.turn) m) s.rule c.shared top) × (d ≡ after m c s below)
unfolding fire
fired m c s [] e = apart e
fired m c s (top ∷ below) {d} e =
    checked 10 (applies (thread_of (owner_of s.turn) m) s.rule c.shared top) e λ t f.
    (top, below, refl, t, (cc))

-- A step that is made meets all of it.
pub stepped : {m : Model} {c : Config} {s : Step} {d : Config} → step_from m c s ≡ accepted d → Stepped m c s d
unfolding step_from turn_fits
stepped {m} {c} {s} {d} e =
    checked 9 (turn_fits m c s) e λ h k.
    let t = (both (leb c.turn s.turn) (ltb s.turn (2 * m.k))).0 h in
    checked 12 (turn_free c s) k λ free l.
    let f = fired m c s (stack_of (owner_of s.turn) c.stacks) l in
    record {
      later = leb→le _ _ t.0;
      early = ltb→lt _ _ t.1;
      free = free;
      top = f.0;
      below = f.1;
      stack = f.2;
      rule = f.3;
      come = f.4;
    }
