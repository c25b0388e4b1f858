-- Logs: what following one against a model comes to, byte by byte, with the number of each refusal. A log is the trace of a run, without its
-- context switches. It has a byte for each step: bit 7 is set for B, bit 6 is zero, and below them stands the number of the rule.
use Rattle.std.specs.Prelude.{not, List, [], ◌∷◌, ℕ, zero, suc, ◌+◌, ◌/◌, ◌%◌, leb, eqb, length}
use Rattle.model.specs.declared.Model.{Model}
use Rattle.model.specs.Results.{Result, refused, accepted, need, and_then, unless, refuse, first_of}
use Rattle.model.specs.Schedules.{most_steps}
use Rattle.model.specs.Valid.{fault_of}
use Rattle.model.specs.Walk.{Config, Step, Walked, start_of, made}
use Rattle.logs.specs.declared.Followed.{Followed}

-- The earliest turn from a given one on whose number is even, for 0, or odd, for 1: the same turn, or the next.
unfoldable pub earliest : ℕ → ℕ → ℕ
earliest turn odd = turn + (turn + odd) % 2

-- The step that a byte stands for, in the earliest turn of its thread that a configuration leaves.
abbrev pub step_by : Config → ℕ → Step
step_by c byte = record { turn = earliest c.turn (byte / 128); rule = byte % 64 }

-- One byte: bit 6 first (18), and then its step is made (12 where it changes the thread after a held step, 10).
unfoldable pub byte_from : Model → Config → ℕ → Walked
byte_from m c byte = need 18 (eqb (byte / 64 % 2) 0) (made m c (step_by c byte))

-- The bytes of a log from a configuration on; the first bad one gives the refusal. A log does not end after a held step (12).
unfoldable pub bytes_from : Model → Config → List ℕ → Walked
bytes_from m c [] = need 12 (not c.held) (accepted c)
bytes_from m c (byte ∷ bytes) = and_then (byte_from m c byte) (λ d. bytes_from m d bytes)

-- The rounds of a log of so many bytes whose last step is in this turn: up to the round of that turn, and none without a step.
abbrev pub rounds_by : ℕ → ℕ → ℕ
rounds_by zero turn = 0
rounds_by (suc n) turn = turn / 2 + 1

-- What is refused before the first byte, in order: the model's fault, then a log of more than 4,095 bytes (18); 0 for nothing.
abbrev pub size_refusal : Model → List ℕ → ℕ
size_refusal m log = first_of (fault_of m ∷ refuse 18 (leb (length log) most_steps) ∷ [])

-- What a log of so many bytes says by its end: the last shared state and the rounds, or the refusal.
abbrev pub followed_by : ℕ → Walked → Result Followed
followed_by n (refused k) = refused k
followed_by n (accepted c) = accepted (record { shared = record { 0 = c.shared }; rounds = rounds_by n c.turn })

-- The answer: what is refused before the first byte, or what the bytes from the start come to. Its rounds are the fewest that any placing
-- of the log has (a law).
unfoldable pub followed_of : Model → List ℕ → Result Followed
followed_of m log = followed_by (length log) (unless (size_refusal m log) (bytes_from m (start_of m) log))
