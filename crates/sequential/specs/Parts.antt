-- What the helpers make: the states and rules that are held as digits, and a thread's right side in the one stack.
use Rattle.std.specs.Prelude.{[], ℕ, ◌≤◌, ◌<◌, take}
use Rattle.model.specs.declared.Right.{Right}
use Rattle.model.specs.declared.Right.TheVariants.{Remove, Swap, Push}
use Rattle.model.specs.declared.Thread.{Thread}
use Rattle.model.specs.declared.ThreadId.{ThreadId}
use Rattle.model.specs.Fits.{RuleFits}
use Rattle.model.specs.Rules.{rule_at, put}
use Rattle.sequential.specs.Allowed.{symbol_of}
use Rattle.sequential.specs.declared.state.State as held
use Rattle.sequential.specs.declared.state.Transition.{Transition}
use Rattle.sequential.specs.System.{State, StackRule}

-- The state that is held: its counter, and as many copies as there are rounds.
abbrev pub state_of : held.State → State
state_of s = record { counter = s.counter; copies = take s.rounds s.copies }

-- The rule that is held.
abbrev pub rule_in : Transition → StackRule
rule_in r = record { state = state_of r.from; top = r.top; next = state_of r.to; new = put r.new [] }

-- A thread's right side in the one stack.
abbrev pub right_of : ThreadId → Right → Right
right_of id Remove = Remove
right_of id (Swap a) = Swap (record { 0 = symbol_of id a.0 })
right_of id (Push a b) = Push (record { 0 = symbol_of id a.0 }) (record { 0 = symbol_of id b.0 })

-- The rules of a thread are in range, whatever its states.
pub record ActsFit (t : Thread) : Type 0 where
  pub count : t.count ≤ 64
  pub rules : (r : ℕ) → r < t.count → RuleFits 4 (rule_at t r)
