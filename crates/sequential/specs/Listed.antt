-- The same rules as a list, each once, in the order in which they are printed.
use Rattle.std.specs.Prelude.{Bool, cond, ◌&&◌, List, [], ◌∷◌, ◌++◌, map, ℕ, zero, suc, ◌+◌, ◌^◌, T, leb, ltb, eqb, length}
use Rattle.model.specs.declared.Model.{Model}
use Rattle.model.specs.declared.Rule.{Rule}
use Rattle.model.specs.declared.Thread.{Thread}
use Rattle.model.specs.declared.ThreadId.{ThreadId}
use Rattle.model.specs.declared.ThreadId.TheVariants.{A, B}
use Rattle.model.specs.Lines.{digits, value}
use Rattle.model.specs.Order.{precedes}
use Rattle.model.specs.Rules.{rule_at, put}
use Rattle.model.specs.Walk.{thread_of}
use Rattle.sequential.specs.Allowed.{symbol_of, bottom, closing, owns, at, copy, with_copy}
use Rattle.sequential.specs.System.{State, StackRule}

-- A value stands in a list.
pub data Member {X : Type 0} (x : X) : List X → Type 0 where
  here : {l : List X} → Member x (x ∷ l)
  there : {y : X} {l : List X} → Member x l → Member x (y ∷ l)

-- The lists for the numbers below n, one behind the other.
unfoldable pub below : {X : Type 0} → (ℕ → List X) → ℕ → List X
below f zero = []
below f (suc n) = below f n ++ f n

-- A rule where a test holds, and else none.
abbrev pub only_if : Bool → StackRule → List StackRule
only_if test r = cond test (r ∷ []) []

-- The thread whose rules can take a top.
abbrev pub taker_of : ℕ → ThreadId
taker_of top = cond (ltb top 16) A B

-- Rule r of a thread, where it takes a top at a state.
unfoldable pub act_of : Rule → ThreadId → State → ℕ → List StackRule
act_of r id s top =
    only_if (eqb r.before.0 (copy s) && eqb (symbol_of id r.symbol.0) top)
    (record { state = s; top = top; next = with_copy s r.after.0; new = map (symbol_of id) (put r.right []) })

-- The rules of a thread that take a top at a state.
unfoldable pub acts_of : Thread → ThreadId → State → ℕ → List StackRule
acts_of t id s top = below (λ r. act_of (rule_at t r) id s top) t.count

-- The same of a thread of a model, by its name.
abbrev pub taken_at : Model → ThreadId → State → ℕ → List StackRule
taken_at m id s top = acts_of (thread_of id m) id s top

-- The rule that passes the turn on.
unfoldable pub pass_of : State → ℕ → List StackRule
pass_of s top =
    only_if (leb top 33) (record { state = s; top = top; next = at (suc s.counter) s.copies; new = top ∷ [] })

-- The rule by which B begins.
unfoldable pub begin_of : Thread → State → ℕ → List StackRule
begin_of b s top =
    only_if (eqb s.counter 1 && eqb top (closing A))
    (record { state = s; top = top; next = s; new = symbol_of B b.first.0 ∷ bottom B ∷ [] })

-- The thread that a top from 0 to 33 belongs to.
abbrev pub holder_of : ℕ → ThreadId
holder_of top = cond (owns A top) A B

-- The rule after all turns of a thread.
unfoldable pub close_of : State → ℕ → List StackRule
close_of s top =
    only_if (leb top 33) (record { state = s; top = top; next = at 1 s.copies; new = closing (holder_of top) ∷ top ∷ [] })

-- The rules at a state and a top: up to counter K those of the threads, the pass and B's begin, and at K+1 the close.
unfoldable pub rules_at : Model → State → ℕ → List StackRule
rules_at m s top =
    cond (leb s.counter m.k) (taken_at m (taker_of top) s top ++ pass_of s top ++ begin_of m.b s top) (close_of s top)

-- Those at a state, for all tops from 0 to 35.
unfoldable pub rules_of : Model → State → List StackRule
rules_of m s = below (rules_at m s) 36

-- Those at a counter, for all copies below G, as the numbers that they write in base G ascend.
unfoldable pub rules_with : Model → ℕ → List StackRule
rules_with m counter = below (λ v. rules_of m (at counter (digits m.g m.k v))) (m.g ^ m.k)

-- All of them, for the counters from 1 to K+1.
unfoldable pub rules : Model → List StackRule
rules m = below (λ c. rules_with m (suc c)) (m.k + 1)

-- A rule is listed.
abbrev pub Listed : Model → StackRule → Type 0
Listed m r = Member r (rules m)

-- A state as a number: its counter and then its copies, a digit each.
unfoldable pub number_of : State → ℕ
number_of s = value 10 (s.counter ∷ s.copies)

-- What rules are ordered by, one after another: state, top, next state, number of new symbols, and these.
abbrev pub ordered_by : StackRule → List ℕ
ordered_by r = number_of r.state ∷ r.top ∷ number_of r.next ∷ length r.new ∷ r.new

-- A list of rules ascends, so that each is there once: it comes before all those behind it.
abbrev pub Ascends : List StackRule → Type 0
Ascends [] = Unit {0}
Ascends (r ∷ l) = ((s : StackRule) → Member s l → T (precedes (ordered_by r) (ordered_by s))) × Ascends l
