-- The first schedule of n steps to the target, over the full lines one after another.
use Rattle.std.specs.Prelude.{Bool, true, false, List, ◌≡◌, ℕ, ◌+◌, ◌*◌, ◌%◌, ◌≤◌, ◌<◌, length, take}
use Rattle.model.specs.declared.Model.{Model}
use Rattle.model.specs.First.{Before, First}
use Rattle.model.specs.Lines.{digits}
use Rattle.model.specs.Runs.{EndsUnder}
use Rattle.model.specs.Schedules.{steps_of, Stored}
use Rattle.model.specs.Walk.{Step}
use Rattle.run.specs.Levels.{Decides}

-- The schedules along the full line whose value is v, to the tops that are named.
abbrev pub AlongLine : Model → ℕ → List Step → Type 0
AlongLine m v ss = EndsUnder m (digits m.g (2 * m.k) v) ss

-- A schedule to the target along one of the full lines whose values are below v.
pub record AlongBelow (m : Model) (v : ℕ) (ss : List Step) : Type 0 where
  pub line : ℕ
  pub low : line < v
  pub ends : line % m.g ≡ m.target.0
  pub run : AlongLine m line ss

-- What a store holds after the full lines below v, by whether a schedule of n steps to the target goes along one of them: what it held;
-- or the first of those schedules at its front, with the bytes beyond as they were.
pub data Lowest (m : Model) (n v : ℕ) (old new : List ℕ) : Bool → Type 0 where
  none : ((ss : List Step) → AlongBelow m v ss → length ss ≡ n → ⊥) → new ≡ old → Lowest m n v old new false
  some : Stored (First (AlongBelow m v) n) n 0 old new → Lowest m n v old new true

-- Line v is gone through: where a store held what it should after the lines below v, it now holds that after one line more, whatever it
-- held before them all, with room for n steps; by whether a schedule was found before, and is now.
abbrev pub Adds : Model → ℕ → ℕ → List ℕ → List ℕ → Bool → Bool → Type 0
Adds m n v kept new before after =
    (old : List ℕ) → 2 * n ≤ length old → Lowest m n v old kept before → Lowest m n (v + 1) old new after

-- Whether the schedule of n steps at the front of a store stands before the one at the front of another.
abbrev pub Compared : List ℕ → List ℕ → ℕ → Bool → Type 0
Compared fresh kept n r = Decides r (Before (steps_of (take (2 * n) fresh)) (steps_of (take (2 * n) kept)))
