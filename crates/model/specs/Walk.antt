-- Schedules, and the walk of one from the start, as replay makes it: the first bad step is refused by 9, 12 or 10.
use Rattle.std.specs.Prelude.{Bool, true, false, not, ◌&&◌, ◌||◌, List, [], ◌∷◌, ℕ, zero, suc, ◌*◌, leb, ltb, eqb}
use Rattle.model.specs.declared.Model.{Model}
use Rattle.model.specs.declared.Rule.{Rule}
use Rattle.model.specs.declared.Thread.{Thread}
use Rattle.model.specs.Tops.{Top}
use Rattle.std.specs.Prelude.{None, Some}
use Rattle.model.specs.Results.{Result, refused, accepted, need, and_then}
use Rattle.model.specs.declared.ThreadId.{ThreadId}
use Rattle.model.specs.declared.ThreadId.TheVariants.{A, B}
use Rattle.model.specs.Rules.{rule_at, applies, put, held_at}

-- The other thread.
abbrev pub other : ThreadId → ThreadId
other A = B
other B = A

-- A turn (context): any number of steps of one thread. Turns are numbered from 0; even ones are A's.
abbrev pub owner_of : ℕ → ThreadId
owner_of zero = A
owner_of (suc turn) = other (owner_of turn)

-- The rules of a thread.
abbrev pub thread_of : ThreadId → Model → Thread
thread_of A m = m.a
thread_of B m = m.b

-- Rule number r of the thread whose turn it is.
abbrev pub rule_of : Model → ℕ → ℕ → Rule
rule_of m turn r = rule_at (thread_of (owner_of turn) m) r

-- The two stacks, each with its top first.
pub record Stacks : Type 0 where
  pub a : List ℕ
  pub b : List ℕ

-- The stack of a thread.
abbrev pub stack_of : ThreadId → Stacks → List ℕ
stack_of A σ = σ.a
stack_of B σ = σ.b

-- The stacks with another one for a thread.
abbrev pub with_stack : ThreadId → List ℕ → Stacks → Stacks
with_stack A w σ = record { a = w; b = σ.b }
with_stack B w σ = record { a = σ.a; b = w }

-- A configuration: the turn of the last step (0 before the first) and whether that step's rule is held, the shared state and the
-- stacks.
pub record Config : Type 0 where
  pub turn : ℕ
  pub held : Bool
  pub shared : ℕ
  pub stacks : Stacks

-- At the start each stack holds its thread's first symbol, alone.
abbrev pub start_stacks : Model → Stacks
start_stacks m = record { a = m.a.first.0 ∷ []; b = m.b.first.0 ∷ [] }

-- The configuration at the start.
abbrev pub start_of : Model → Config
start_of m = record { turn = 0; held = false; shared = m.start.0; stacks = start_stacks m }

-- A step of a schedule: the turn it is made in, and the number of the rule in that turn's thread's list.
pub record Step : Type 0 where
  pub turn : ℕ
  pub rule : ℕ

-- What a walk comes to: the number of a refusal, or a configuration.
abbrev pub Walked : Type 0
Walked = Result Config

-- A turn number is at most 2K−1 and not below the one before.
unfoldable pub turn_fits : Model → Config → Step → Bool
turn_fits m c s = leb c.turn s.turn && ltb s.turn (2 * m.k)

-- No turn ends after a held step: the step before this one is not held, or it is in the same turn.
unfoldable pub turn_free : Config → Step → Bool
turn_free c s = not c.held || eqb c.turn s.turn

-- The configuration after a step, where w is the stack of its thread without the top.
abbrev pub after : Model → Config → Step → List ℕ → Config
after m c s w =
    record {
      turn = s.turn;
      held = held_at (thread_of (owner_of s.turn) m) s.rule;
      shared = (rule_of m s.turn s.rule).after.0;
      stacks = with_stack (owner_of s.turn) (put (rule_of m s.turn s.rule).right w) c.stacks;
    }

-- A step, given the stack of its thread: with an empty stack there is none, and its rule must apply (10).
unfoldable pub fire : Model → Config → Step → List ℕ → Walked
fire m c s [] = refused 10
fire m c s (top ∷ w) = need 10 (applies (thread_of (owner_of s.turn) m) s.rule c.shared top) (accepted (after m c s w))

-- A step made in its turn, whatever that turn's number is: no turn is left after a held step (12), and then the rule of the turn's thread
-- must apply (10).
abbrev pub made : Model → Config → Step → Walked
made m c s = need 12 (turn_free c s) (fire m c s (stack_of (owner_of s.turn) c.stacks))

-- One step of the walk: the turn number first (9), and then the step is made in its turn (12, 10).
unfoldable pub step_from : Model → Config → Step → Walked
step_from m c s = need 9 (turn_fits m c s) (made m c s)

-- The walk of a list of steps from a configuration; its first bad step gives the refusal. It does not end after a held step (12).
unfoldable pub walk : Model → Config → List Step → Walked
walk m c [] = need 12 (not c.held) (accepted c)
walk m c (s ∷ ss) = and_then (step_from m c s) (λ d. walk m d ss)

-- A stack has the top that is asked for: any stack where none is named, and else one with that symbol on top. An empty stack has no top.
abbrev pub has_top : Top → List ℕ → Bool
has_top None w = true
has_top (Some s) [] = false
has_top (Some s) (top ∷ w) = eqb top s.0

-- Both stacks have the tops that the model asks for.
abbrev pub under_tops : Model → Stacks → Bool
under_tops m σ = has_top m.a.top σ.a && has_top m.b.top σ.b

-- The target: its shared state, under the model's tops.
abbrev pub at_target : Model → ℕ → Stacks → Bool
at_target m shared σ = eqb shared m.target.0 && under_tops m σ
