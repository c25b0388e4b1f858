-- Which rules the sequential system of a model has (the sequentialization of Lal and Reps): A's whole half of a run is made first, on
-- copies of the shared state that were guessed for the rounds, then B's half, and where B ends its rounds A must have been put to begin
-- the next. Both halves use the one stack, B's above what A left.
use Rattle.std.specs.Prelude.{Bool, ◌&&◌, ◌||◌, List, [], ◌∷◌, map, ◌≡◌, ℕ, suc, ◌+◌, ◌≤◌, ◌<◌, pred, T, leb, eqb, length, get_or, set}
use Rattle.model.specs.declared.Model.{Model}
use Rattle.model.specs.declared.ThreadId.{ThreadId}
use Rattle.model.specs.declared.ThreadId.TheVariants.{A, B}
use Rattle.model.specs.Lines.{States}
use Rattle.model.specs.Rules.{rule_at, put}
use Rattle.model.specs.Walk.{thread_of}
use Rattle.sequential.specs.System.{State, StackRule}

-- A thread's symbols in the one stack: A's are 0 to 15, B's 16 to 31.
abbrev pub symbol_of : ThreadId → ℕ → ℕ
symbol_of A s = s
symbol_of B s = 16 + s

-- The mark at the bottom of a thread's part of the stack, which is never removed.
abbrev pub bottom : ThreadId → ℕ
bottom A = 32
bottom B = 33

-- The symbol that comes on top where a thread has made all its turns: the helper after A's, and after B's the check symbol.
abbrev pub closing : ThreadId → ℕ
closing A = 35
closing B = 34

-- A top is a thread's: one of its symbols, or its mark.
unfoldable pub owns : ThreadId → ℕ → Bool
owns A top = leb top 15 || eqb top 32
owns B top = (leb 16 top && leb top 31) || eqb top 33

-- A state with a counter and copies.
abbrev pub at : ℕ → List ℕ → State
at counter copies = record { counter = counter; copies = copies }

-- The copy that the thread's rules act on: copy k, counted from 1, at counter k.
abbrev pub copy : State → ℕ
copy s = get_or s.copies (pred s.counter) 0

-- The state with another one for this copy.
abbrev pub with_copy : State → ℕ → State
with_copy s q = at s.counter (set s.copies (pred s.counter) q)

-- The states of a model's system: a counter from 1 to K+1, and K copies below G.
pub record StateOf (m : Model) (s : State) : Type 0 where
  pub low : 1 ≤ s.counter
  pub high : s.counter ≤ m.k + 1
  pub count : length s.copies ≡ m.k
  pub below : States m.g s.copies

-- A rule of a thread acts on copy k, at a counter k up to K.
pub record Acts (m : Model) (r : StackRule) : Type 0 where
  pub id : ThreadId
  pub number : ℕ
  pub listed : number < (thread_of id m).count
  pub turn : r.state.counter ≤ m.k
  pub before : (rule_at (thread_of id m) number).before.0 ≡ copy r.state
  pub symbol : r.top ≡ symbol_of id (rule_at (thread_of id m) number).symbol.0
  pub after : r.next ≡ with_copy r.state (rule_at (thread_of id m) number).after.0
  pub right : r.new ≡ map (symbol_of id) (put (rule_at (thread_of id m) number).right [])

-- A turn is passed on, whatever the top: at a counter k up to K each top from 0 to 33 goes to k+1, with all else kept.
pub record Passes (m : Model) (r : StackRule) : Type 0 where
  pub turn : r.state.counter ≤ m.k
  pub symbol : r.top ≤ 33
  pub after : r.next ≡ at (suc r.state.counter) r.state.copies
  pub right : r.new ≡ r.top ∷ []

-- A thread has made all its turns: at K+1 its closing symbol comes on top, with counter 1 and the copies kept.
pub record Closes (m : Model) (r : StackRule) : Type 0 where
  pub id : ThreadId
  pub turn : r.state.counter ≡ m.k + 1
  pub symbol : T (owns id r.top)
  pub after : r.next ≡ at 1 r.state.copies
  pub right : r.new ≡ closing id ∷ r.top ∷ []

-- B begins: at counter 1 the helper becomes B's first symbol over B's mark, in the same state.
pub record Begins (m : Model) (r : StackRule) : Type 0 where
  pub turn : r.state.counter ≡ 1
  pub symbol : r.top ≡ closing A
  pub after : r.next ≡ r.state
  pub right : r.new ≡ symbol_of B m.b.first.0 ∷ bottom B ∷ []

-- The four kinds of rules.
pub data Kind (m : Model) (r : StackRule) : Type 0 where
  acts : Acts m r → Kind m r
  passes : Passes m r → Kind m r
  closes : Closes m r → Kind m r
  begins : Begins m r → Kind m r

-- The rules are these alone, for all counters and copies.
pub record Allowed (m : Model) (r : StackRule) : Type 0 where
  pub state : StateOf m r.state
  pub kind : Kind m r
