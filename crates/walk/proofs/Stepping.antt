-- A step made in its turn, decided test by test: that no turn is left after a held step, then the step of the thread whose turn it is.
use mathlib.Core.Bool.{Bool, true, false, not, ◌||◌}
use mathlib.Core.List.{List, [], ◌∷◌}
use mathlib.Core.Path.{◌≡◌, refl}
use Prim.Native.Nat.{ℕ}
use native.Mathlib.Omega.{arith}
use borrow.Author.Tests.{not-false}
use lib.Dec.{eqb}
use Rattle.model.specs.declared.Model.{Model}
use Rattle.model.specs.Results.{accepted, and_then, need}
use Rattle.model.specs.Rules.{applies}
use Rattle.model.specs.Walk.{owner_of, thread_of, stack_of, with_stack, Config, Step, Walked, turn_free, fire, made}
use Rattle.model.specs.declared.ThreadId.{ThreadId}
use Rattle.model.specs.declared.ThreadId.TheVariants.{A, B}
use Rattle.walk.specs.declared.Fired.{Fired}
use Rattle.model.specs.declared.refusal.Refusal.{Refusal}
use Rattle.std.specs.Prelude.{Result, Ok, Err}
use Rattle.walk.specs.declared.Walk.{Walk}
use Rattle.walk.specs.Stack.{top_first, config_of, walked_of, Grows, Moved, move_of, moved_of, Fires, stepped_of}

-- What the step of a thread comes to as a step of the walk.
abbrev pub carried : ThreadId → Config → Step → Moved → Walked
carried i c s x =
    and_then x (λ y. accepted (record { turn = s.turn; held = y.0; shared = y.1; stacks = with_stack i y.2 c.stacks }))

-- A rule that does not apply is refused either way.
decides : (i : ThreadId) (c : Config) (s : Step) (b : Bool) (x : Moved)
    → need 10 b (carried i c s x) ≡ carried i c s (need 10 b x)
decides i c s true x = refl
decides i c s false x = refl

module _ (m : Model) (c : Config) (s : Step) where
  -- The step that the definition has in terms of the model is that of the thread.
  pub fires : (l : List ℕ)
      → fire m c s l ≡ carried (owner_of s.turn) c s (move_of (thread_of (owner_of s.turn) m) s.rule c.shared l)
  unfolding fire move_of
  fires [] = refl
  fires (top ∷ l) =
      decides (owner_of s.turn) c s (applies (thread_of (owner_of s.turn) m) s.rule c.shared top) (accepted _)

  -- So a step that leaves no turn after a held one is the step of its thread i, which comes to x.
  pub comes : (i : ThreadId) → owner_of s.turn ≡ i → {may : Bool} → may ≡ (not c.held || eqb c.turn s.turn) → not may ≡ false
      → {x : Moved} → x ≡ move_of (thread_of i m) s.rule c.shared (stack_of i c.stacks)
      → carried i c s x ≡ made m c s
  unfolding turn_free
  comes i f {may} e h p = rw (← e, not-false may h, fires (stack_of (owner_of s.turn) c.stacks), f, ← p)

-- A step of A, made on its stack in the buffer a, and one of B, is that of the walk: it comes to the walk's next configuration, with at most
-- one symbol more, or is refused and leaves the buffers as they were.
module _ (m : Model) (w : Walk) (a b : List ℕ) (s : Step) {may : Bool}
    (e : may ≡ (not w.held || eqb w.turn s.turn)) (h : not may ≡ false) where
  pub by_a : owner_of s.turn ≡ A → (f : Result Fired Refusal) (a' : List ℕ)
      → (moved_of f a' ≡ move_of (thread_of A m) s.rule w.shared.0 (top_first w.a a)) × Fires w.a f a a'
      → (walked_of (stepped_of w A s.turn f) a' b ≡ made m (config_of w a b) s) × Grows w (stepped_of w A s.turn f) a b a' b
  by_a o (Ok f) a' p = (comes m (config_of w a b) s A o e h p.0, (p.1, omega arith))
  by_a o (Err r) a' p = (comes m (config_of w a b) s A o e h p.0, (p.1, refl))

  pub by_b : owner_of s.turn ≡ B → (f : Result Fired Refusal) (b' : List ℕ)
      → (moved_of f b' ≡ move_of (thread_of B m) s.rule w.shared.0 (top_first w.b b)) × Fires w.b f b b'
      → (walked_of (stepped_of w B s.turn f) a b' ≡ made m (config_of w a b) s) × Grows w (stepped_of w B s.turn f) a b a b'
  by_b o (Ok f) b' p = (comes m (config_of w a b) s B o e h p.0, (omega arith, p.1))
  by_b o (Err r) b' p = (comes m (config_of w a b) s B o e h p.0, (refl, p.1))
