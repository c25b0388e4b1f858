-- The earliest turn of a thread from a turn on: it is that turn or the next; the high bit of a byte says its parity, so the log of the step
-- that the byte stands for is that byte; and no turn of that thread is before it.
use mathlib.Core.Path.{◌≡◌}
use Prim.Native.Nat.{ℕ, ◌+◌, ◌/◌, ◌%◌, ◌≤◌, ◌<◌}
use native.Mathlib.Decide.{ℕ_discrete}
use native.Mathlib.Omega.{arith}
use Rattle.model.specs.Walk.{Config, owner_of}
use Rattle.model.proofs.Owners.{even_turn, odd_turn}
use Rattle.logs.specs.Log.{earliest, step_by}
use Rattle.logs.specs.Placings.{recorded}

-- The earliest turn is not before the given one ..
pub not-before : (turn odd : ℕ) → turn ≤ earliest turn odd
unfolding earliest
not-before turn odd = omega arith

-- .. and at most the next.
pub next_most : (turn odd : ℕ) → earliest turn odd ≤ turn + 1
unfolding earliest
next_most turn odd = omega arith

-- Its number leaves the remainder that is asked for ..
pub right_parity : (turn odd : ℕ) → odd < 2 → earliest turn odd % 2 ≡ odd
unfolding earliest
right_parity turn odd h = omega arith

-- .. so a byte whose bit 6 is zero is what is recorded for its step.
pub recorded_back : (c : Config) (byte : ℕ) → byte < 256 → byte / 64 % 2 ≡ 0 → recorded (step_by c byte) ≡ byte
recorded_back c byte h e =
    let p : earliest c.turn (byte / 128) % 2 ≡ byte / 128 = right_parity c.turn (byte / 128) (omega arith) in
    rw p (omega arith)

-- A later turn of the same thread is not before it ..
pub not_after : (turn later : ℕ) → turn ≤ later → earliest turn (later % 2) ≤ later
unfolding earliest
not_after turn later h = omega arith

-- .. and a turn of that thread is itself the earliest.
pub itself : (turn later : ℕ) → turn % 2 ≡ later % 2 → earliest turn (later % 2) ≡ turn
unfolding earliest
itself turn later h = omega arith

-- Turns with the same remainder are one thread's.
pub same_owner : (t u : ℕ) → t % 2 ≡ u % 2 → owner_of t ≡ owner_of u
same_owner t u h =
    elim (ℕ_discrete (u % 2) 0) [
      | yes e ↦ rw (even_turn t (omega arith), even_turn u e)
      | no e ↦ rw (odd_turn t (λ z. e (omega arith)), odd_turn u e)
    ]
