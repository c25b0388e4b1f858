-- What one thread sees of a line of shared states: its own turns, and the turn ends between them.
use Rattle.std.specs.Prelude.{List, ℕ, suc, ◌+◌, ◌*◌, get_or}
use Rattle.model.specs.declared.ThreadId.{ThreadId}
use Rattle.model.specs.declared.ThreadId.TheVariants.{A, B}
use Rattle.summary.specs.Control.{TurnEnd}

-- The number of a thread's own turn j: even ones are A's.
abbrev pub turn_of : ThreadId → ℕ → ℕ
turn_of A j = 2 * j
turn_of B j = 2 * j + 1

-- The turn end after a thread's own turn j: the line has where that turn ends, and where the other's turn after it does.
abbrev pub ends_of : ThreadId → List ℕ → ℕ → TurnEnd
ends_of id line j = record { leave = get_or line (turn_of id j) 0; enter = get_or line (suc (turn_of id j)) 0 }

-- The state in which a thread's first turn starts, where the run starts in q.
abbrev pub first_state : ThreadId → ℕ → List ℕ → ℕ
first_state A q line = q
first_state B q line = get_or line 0 0

-- The state in which a thread's own turn n ends.
abbrev pub last_state : ThreadId → ℕ → List ℕ → ℕ
last_state id n line = get_or line (turn_of id n) 0
