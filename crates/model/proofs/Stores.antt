-- Bytes stored one after another, and schedules as bytes: a run of stores goes on where the one before it ended, and two bytes are
-- a step.
use mathlib.Core.List.{List, [], ◌∷◌, ◌++◌}
use mathlib.Core.Path.{◌≡◌, refl, ap}
use Prim.Native.Nat.{ℕ, suc, ◌+◌, ◌*◌, ◌/◌, ◌%◌, ◌<◌, ◌≤◌}
use native.Mathlib.Nat.{add-zero, add-suc, suc-add}
use native.Mathlib.Numerals.{add-one}
use native.Mathlib.Omega.{arith}
use lib.ListN.{length, take}
use lib.Seq.{sets, sets-eq, drop-cons, take-append_seam}
use Rattle.model.specs.Schedules.{bytes_of, steps_of, step_at, steps_from, Stored}
use Rattle.model.specs.Walk.{Step}

-- A run of stores after another is one run.
pub sets_append : (l : List ℕ) (i : ℕ) (a b : List ℕ) → sets (sets l i a) (i + length a) b ≡ sets l i (a ++ b)
sets_append l i [] b = rw add-zero
sets_append l i (x ∷ a) b = rw (add-suc, ← suc-add) (sets_append _ _ a b)

-- A schedule has two bytes a step.
pub length_bytes : (ss : List Step) → length (bytes_of ss) ≡ 2 * length ss
length_bytes [] = refl
length_bytes (s ∷ ss) = omega (arith, length_bytes ss)

-- The bytes of two schedules, one after the other.
pub bytes_append : (xs ys : List Step) → bytes_of (xs ++ ys) ≡ bytes_of xs ++ bytes_of ys
bytes_append [] ys = refl
bytes_append (x ∷ xs) ys = ap (λ l. x.turn ∷ x.rule ∷ l) (bytes_append xs ys)

-- The steps of a schedule's bytes are the schedule ..
pub steps_bytes : (ss : List Step) → steps_of (bytes_of ss) ≡ ss
unfolding steps_of
steps_bytes [] = refl
steps_bytes (s ∷ ss) = ap (λ l. s ∷ l) (steps_bytes ss)

-- .. and bytes of even length are the bytes of their steps.
pub bytes_steps : (bs : List ℕ) → length bs % 2 ≡ 0 → bytes_of (steps_of bs) ≡ bs
unfolding steps_of
bytes_steps [] e = refl
bytes_steps (t ∷ []) e = absurd (omega arith)
bytes_steps (t ∷ r ∷ rest) e = ap (λ l. t ∷ r ∷ l) (bytes_steps rest (omega arith))

-- Two bytes are a step.
pub length_steps : (bs : List ℕ) → length (steps_of bs) ≡ length bs / 2
unfolding steps_of
length_steps [] = refl
length_steps (t ∷ []) = refl
length_steps (t ∷ r ∷ rest) = omega (arith, length_steps rest)

-- Where n steps stand at the front of a store, its front is their bytes ..
pub stored_front : {Run : List Step → Type 0} {n : ℕ} {old new : List ℕ} (s : Stored Run n 0 old new) → 2 * n ≤ length old
    → take (2 * n) new ≡ bytes_of s.steps
stored_front {n = n} {old} s room =
    let size : length (bytes_of s.steps) ≡ 2 * n = omega (arith, length_bytes s.steps, s.count) in
    rw (s.shown, ← size, sets-eq (bytes_of s.steps) old 0 (omega arith)) (take-append_seam (bytes_of s.steps) _)

-- .. and holds those steps.
pub stored_steps : {Run : List Step → Type 0} {n : ℕ} {old new : List ℕ} (s : Stored Run n 0 old new) → 2 * n ≤ length old
    → steps_of (take (2 * n) new) ≡ s.steps
stored_steps s room = rw (stored_front s room) (steps_bytes s.steps)

-- Where the step at place i is there, the others follow it ..
pub first_step : (l : List ℕ) (i : ℕ) → i < length l / 2 → steps_from l i ≡ step_at l i ∷ steps_from l (i + 1)
unfolding steps_of
first_step l i h =
    let p : 2 * i < length l = omega arith in
    let q : suc (2 * i) < length l = omega arith in
    let e : 2 * (i + 1) ≡ suc (suc (2 * i)) = omega arith in
    rw (drop-cons l (2 * i) 0 p, drop-cons l (suc (2 * i)) 0 q, e, add-one)

-- .. and past the last there is none.
pub short : (l : List ℕ) → length l ≤ 1 → steps_of l ≡ []
unfolding steps_of
short [] h = refl
short (x ∷ []) h = refl
short (x ∷ y ∷ l) h = absurd (omega arith)
