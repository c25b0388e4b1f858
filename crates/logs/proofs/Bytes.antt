-- One byte of a log, and the rounds of several: what a step does goes by its thread and not by the number of rounds, so a byte that is accepted
-- is a step of the walk with as many rounds as it takes.
use mathlib.Core.List.{List, [], ◌∷◌}
use mathlib.Core.Path.{◌≡◌, refl, ap, ◌∙◌}
use Prim.Native.Nat.{ℕ, zero, suc, ◌+◌, ◌*◌, ◌/◌, ◌%◌, ◌≤◌, ◌<◌}
use native.Mathlib.Omega.{arith}
use borrow.Author.Tests.{le-leb, lt-ltb}
use lib.Dec.{eqb, eqb→eq}
use Rattle.model.specs.declared.Model.{Model}
use Rattle.model.specs.declared.ThreadId.{ThreadId}
use Rattle.model.specs.declared.ThreadId.TheVariants.{A, B}
use Rattle.model.specs.Results.{accepted}
use Rattle.model.specs.Walk.{owner_of, thread_of, Config, Step, turn_fits, fire, made, step_from}
use Rattle.model.proofs.Results.{checked}
use Rattle.model.proofs.Steps.{stepped}
use Rattle.logs.specs.Log.{step_by, byte_from, rounds_by}
use Rattle.logs.specs.Placings.{in_rounds}
use Rattle.logs.proofs.Earliest.{not-before}

-- With another number of rounds the threads are the same ..
pub same_thread : (n : ℕ) (m : Model) (i : ThreadId) → thread_of i (in_rounds n m) ≡ thread_of i m
same_thread n m A = refl
same_thread n m B = refl

-- .. and so are their steps ..
same_fire : (n : ℕ) (m : Model) (c : Config) (s : Step) (w : List ℕ) → fire (in_rounds n m) c s w ≡ fire m c s w
unfolding fire
same_fire n m c s [] = refl
same_fire n m c s (top ∷ w) = rw (same_thread n m (owner_of s.turn))

-- .. so a step made in its turn is one of the walk with as many rounds as it takes.
pub made_step : (n : ℕ) (m : Model) (c : Config) (s : Step) → c.turn ≤ s.turn → s.turn < 2 * n
    → step_from (in_rounds n m) c s ≡ made m c s
unfolding step_from turn_fits
made_step n m c s h k = rw (le-leb _ _ h, lt-ltb _ _ k, same_fire n m c s)

-- Bit 6 of a byte is zero, and its step is made, in its turn.
pub record Taken (m : Model) (c : Config) (byte : ℕ) (d : Config) : Type 0 where
  pub low : byte / 64 % 2 ≡ 0
  pub made : made m c (step_by c byte) ≡ accepted d
  pub turn : d.turn ≡ (step_by c byte).turn

-- A byte that is accepted has met this.
pub taken : (m : Model) (c : Config) (byte : ℕ) {d : Config} → byte_from m c byte ≡ accepted d → Taken m c byte d
unfolding byte_from
taken m c byte {d} e =
    let s = step_by c byte in
    checked 18 (eqb (byte / 64 % 2) 0) e λ t f.
    let come = (stepped (made_step (suc s.turn) m c s (not-before c.turn (byte / 128)) (omega arith) ∙ f)).come in
    record { low = eqb→eq _ _ t; made = f; turn = ap (λ (x : Config). x.turn) come }

-- A log with a byte has the rounds up to its last turn ..
pub some_rounds : (n turn : ℕ) → (n ≡ 0 → ⊥) → turn / 2 + 1 ≡ rounds_by n turn
some_rounds zero turn h = absurd (h refl)
some_rounds (suc n) turn h = refl

-- .. and no log has more than those.
pub rounds_most : (n turn : ℕ) → rounds_by n turn ≤ turn / 2 + 1
rounds_most zero turn = omega arith
rounds_most (suc n) turn = omega arith
