-- Stacks in buffers, and what the walk's functions say in terms of configurations.
use Rattle.std.specs.Prelude.{Bool, List, [], ◌∷◌, ◌≡◌, ℕ, zero, suc, ◌+◌, ◌≤◌, length, get_or, Result, Ok, Err}
use Rattle.model.specs.declared.Model.{Model}
use Rattle.model.specs.declared.Thread.{Thread}
use Rattle.model.specs.declared.ThreadId.{ThreadId}
use Rattle.model.specs.declared.ThreadId.TheVariants.{A, B}
use Rattle.model.specs.declared.refusal.Refusal.{Refusal}
use Rattle.model.specs.Refusals.{number_of}
use Rattle.model.specs.Results.{refused, accepted, need, and_then}
use Rattle.model.specs.Results as results
use Rattle.model.specs.Rules.{rule_at, applies, put, held_at}
use Rattle.model.specs.Walk.{Config, Step, Walked, start_of, step_from}
use Rattle.walk.specs.declared.Fired.{Fired}
use Rattle.walk.specs.declared.Walk.{Walk}

-- The stack that the first n places of a buffer hold, bottom at place 0; as a list its top is first.
unfoldable pub top_first : ℕ → List ℕ → List ℕ
top_first zero l = []
top_first (suc n) l = get_or l n 0 ∷ top_first n l

-- The configuration that a walk's counters and its two buffers stand for.
abbrev pub config_of : Walk → List ℕ → List ℕ → Config
config_of w a b =
    record { turn = w.turn; held = w.held; shared = w.shared.0; stacks = record { a = top_first w.a a; b = top_first w.b b } }

-- What the answer of a step, or of several, stands for, with the buffers as it left them.
abbrev pub walked_of : Result Walk Refusal → List ℕ → List ℕ → Walked
walked_of (Ok w) a b = accepted (config_of w a b)
walked_of (Err r) a b = refused (number_of r)

-- The steps of a list from a configuration, up to the first that is refused: the walk of them, but it may end after a held step.
unfoldable pub walk_on : Model → Config → List Step → Walked
walk_on m c [] = accepted c
walk_on m c (s ∷ ss) = and_then (step_from m c s) (λ d. walk_on m d ss)

-- A walk at its start: the counters and the buffers stand for the start of the model, and each stack holds one symbol.
pub record Starts (m : Model) (w : Walk) (a b : List ℕ) : Type 0 where
  pub config : config_of w a b ≡ start_of m
  pub first : w.a ≡ 1
  pub second : w.b ≡ 1

-- The rule counts of both threads are within their arrays of 64.
pub record Counted (m : Model) : Type 0 where
  pub a : m.a.count ≤ 64
  pub b : m.b.count ≤ 64

-- Each buffer has room for n more symbols.
pub record Room (n : ℕ) (w : Walk) (a b : List ℕ) : Type 0 where
  pub first : w.a + n ≤ length a
  pub second : w.b + n ≤ length b

-- Steps that are made grow each stack by at most n symbols.
abbrev pub GrowsBy : ℕ → Walk → Result Walk Refusal → Type 0
GrowsBy n w (Ok v) = (v.a ≤ w.a + n) × (v.b ≤ w.b + n)
GrowsBy n w (Err r) = Unit {0}

-- A step grows each stack by at most one symbol, and one that is refused leaves the buffers as they were.
abbrev pub Grows : Walk → Result Walk Refusal → List ℕ → List ℕ → List ℕ → List ℕ → Type 0
Grows w (Ok v) a b a' b' = GrowsBy 1 w (Ok v)
Grows w (Err r) a b a' b' = (a' ≡ a) × (b' ≡ b)

-- What one thread's step makes of the shared state and its stack, and whether its rule is held.
abbrev pub Moved : Type 0
Moved = results.Result (Bool × ℕ × List ℕ)

-- A thread's step by rule r: with an empty stack there is none, and the rule must apply (10).
unfoldable pub move_of : Thread → ℕ → ℕ → List ℕ → Moved
move_of t r shared [] = refused 10
move_of t r shared (top ∷ w) =
    need 10 (applies t r shared top) (accepted (held_at t r, (rule_at t r).after.0, put (rule_at t r).right w))

-- What the answer of a thread's step stands for, with the buffer as it left it.
abbrev pub moved_of : Result Fired Refusal → List ℕ → Moved
moved_of (Ok f) l = accepted (f.held, f.shared.0, top_first f.depth l)
moved_of (Err r) l = refused (number_of r)

-- The same of one thread's stack: at most one symbol more, and where it is stuck the buffer is as it was.
abbrev pub Fires : ℕ → Result Fired Refusal → List ℕ → List ℕ → Type 0
Fires depth (Ok f) l l' = f.depth ≤ depth + 1
Fires depth (Err r) l l' = l' ≡ l

-- Where a walk is after a step of a thread in a turn, by what it made of the thread's stack.
abbrev pub after_of : Walk → ThreadId → ℕ → Fired → Walk
after_of w A turn f = record { turn = turn; held = f.held; shared = f.shared; a = f.depth; b = w.b }
after_of w B turn f = record { turn = turn; held = f.held; shared = f.shared; a = w.a; b = f.depth }

-- What such a step comes to: the walk after it, or the refusal.
abbrev pub stepped_of : Walk → ThreadId → ℕ → Result Fired Refusal → Result Walk Refusal
stepped_of w i turn (Ok f) = Ok (after_of w i turn f)
stepped_of w i turn (Err r) = Err r
