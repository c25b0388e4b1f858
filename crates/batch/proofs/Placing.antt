-- The outcome of Found by whether its steps fit, and a schedule put into the part of a store that lies behind the steps written.
use mathlib.Core.Bool.{true, false}
use mathlib.Core.List.{List, [], ◌++◌, append_assoc, append-nil}
use mathlib.Core.Path.{◌≡◌, refl}
use Prim.Native.Nat.{ℕ, zero, suc, ◌+◌, ◌-◌, ◌≤◌, ◌<◌}
use native.Mathlib.Decide.{dec_lt}
use native.Mathlib.Omega.{arith}
use borrow.Author.Tests.{le-leb, lt-leb}
use lib.ListN.{length, take, drop, length-drop, drop_of_length-le}
use lib.Seq.{sets, sets-eq, length-take-le, drop-drop}
use Rattle.model.specs.Schedules.{most_steps}
use Rattle.model.specs.Verdict.{Verdict, clear, long, found}
use Rattle.tray.proofs.Parts.{to_end}
use Rattle.batch.specs.declared.Outcome.{Outcome}
use Rattle.batch.specs.Outcomes.{without, written_at, place_of, outcome_of, used_by}

-- Steps that fit are written ..
pub fits : (used n : ℕ) → used + n ≤ most_steps → outcome_of used (found n) ≡ written_at used n
unfolding outcome_of
fits used n h = rw (le-leb (used + n) most_steps h)

-- .. and others are not.
pub fits_not : (used n : ℕ) → most_steps < used + n → outcome_of used (found n) ≡ without 2 n
unfolding outcome_of
fits_not used n h = rw (lt-leb (used + n) most_steps h)

-- A schedule with a step stands right behind the steps written.
pub placed : (used n : ℕ) → (n ≡ 0 → ⊥) → used ≡ place_of used n
placed used zero h = absurd (h refl)
placed used (suc n) h = refl

-- What a written outcome adds, ..
pub added : (used : ℕ) (o : Outcome) → o.written ≡ true → used + o.steps ≡ used_by used o
unfolding used_by
added used o e = rw e

-- .. and any other.
pub added_none : (used : ℕ) (o : Outcome) → o.written ≡ false → used ≡ used_by used o
unfolding used_by
added_none used o e = rw e (omega arith)

-- No more than 4,095 steps are written.
pub stays_low : (used : ℕ) (v : Verdict) → used ≤ most_steps → used_by used (outcome_of used v) ≤ most_steps
unfolding used_by outcome_of
stays_low used clear h = omega arith
stays_low used long h = omega arith
stays_low used (found n) h = elim (dec_lt most_steps (used + n)) [
  | yes k ↦ rw (lt-leb (used + n) most_steps k) (omega arith)
  | no k ↦ rw (le-leb (used + n) most_steps (omega arith)) (omega arith)
]

-- The front of one store put into the part of another from a place on is stored there.
pub put_behind : (l : List ℕ) (at n : ℕ) (from : List ℕ) {part : List ℕ} → n ≤ length from → at + n ≤ length l
    → part ≡ take n from ++ drop n (take (length l - at) (drop at l))
    → take at l ++ (part ++ drop (length l - at) (drop at l)) ≡ sets l at (take n from)
put_behind l at n from h k e =
    let size : length (take n from) ≡ n = length-take-le n from h in
    let gone : drop (length l - at) (drop at l) ≡ [] = drop_of_length-le (drop at l) {i = length l - at} (simp length-drop (omega arith)) in
    let stored = sets-eq (take n from) l at (omega (arith, size)) in
    rw (e, to_end l at (omega arith), drop-drop n at l, gone, append-nil, stored, size, append_assoc) refl
