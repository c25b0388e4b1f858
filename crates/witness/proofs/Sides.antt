-- Two lists of steps in bytes, read step by step and written by turn: what is written, with the rest merged behind it, is
-- always the whole merged.
use mathlib.Core.Bool.{Bool, true, false, cond}
use mathlib.Core.List.{List, [], ◌∷◌}
use mathlib.Core.Path.{◌≡◌, refl}
use Prim.Native.Nat.{ℕ, suc, ◌+◌, ◌*◌, ◌/◌, ◌≤◌, ◌<◌}
use native.Mathlib.Omega.{arith}
use lib.Dec.{leb}
use lib.ListN.{length, drop, get_or, length-drop, length-set}
use lib.Seq.{sets}
use Rattle.model.specs.Schedules.{bytes_of, steps_of, step_at, steps_from}
use Rattle.model.specs.Walk.{Step}
use Rattle.model.proofs.Stores.{first_step, short}
use Rattle.witness.specs.Merge.{merged, Next}
use Rattle.witness.proofs.Merging.{merge_nothing}

-- Past the last step there is none.
no_step : (l : List ℕ) (i : ℕ) → i ≡ length l / 2 → steps_from l i ≡ []
no_step l i h = short (drop (2 * i) l) (simp length-drop (omega arith))

module _ (a b : List ℕ) {i j : ℕ} where
  -- Where b has no more steps, the next is a's ..
  pub only_first : j ≡ length b / 2 → i < length a / 2 → Next a i b j true
  only_first e h = (h, rw (no_step b j e) (simp merge_nothing (first_step a i h)))

  -- .. where a has none, it is b's ..
  pub only_second : i ≡ length a / 2 → j < length b / 2 → Next a i b j false
  unfolding merged
  only_second e h = (h, rw (no_step a i e) (first_step b j h))

  -- .. and else the one of the lower turn.
  pub lower : i < length a / 2 → j < length b / 2 → Next a i b j (leb (get_or a (2 * i) 0) (get_or b (2 * j) 0))
  unfolding merged
  lower h k = decided (leb (get_or a (2 * i) 0) (get_or b (2 * j) 0)) (rw (first_step a i h, first_step b j k))
    where
      decided : (t : Bool)
          → merged (steps_from a i) (steps_from b j)
          ≡ cond t (step_at a i ∷ merged (steps_from a (i + 1)) (steps_from b j))
          (step_at b j ∷ merged (steps_from a i) (steps_from b (j + 1)))
          → Next a i b j t
      decided true e = (h, e)
      decided false e = (k, e)

-- The bytes written when i steps of a and j of b are: with the rest merged behind them they are the whole.
pub record Sides (a b old new : List ℕ) (i j : ℕ) : Type 0 where
  pub first : i ≤ length a / 2
  pub second : j ≤ length b / 2
  pub size : length new ≡ length old
  pub rest : sets new (2 * (i + j)) (bytes_of (merged (steps_from a i) (steps_from b j)))
      ≡ sets old 0 (bytes_of (merged (steps_of a) (steps_of b)))

-- At the start nothing is written.
pub sides_start : (a b old : List ℕ) → Sides a b old old 0 0
sides_start a b old = record { first = omega arith; second = omega arith; size = refl; rest = refl }

-- The first step of a list stored, the others are stored behind it.
stored_first : (new : List ℕ) (at : ℕ) {next : ℕ} {put whole : List ℕ} {x : Step} {all rest : List Step}
    → all ≡ x ∷ rest → sets new (2 * at) (bytes_of all) ≡ whole → put ≡ sets new (2 * at) (bytes_of (x ∷ []))
    → next ≡ at + 1 → sets put (2 * next) (bytes_of rest) ≡ whole
stored_first new at {next} first whole put e =
    let place : 2 * next ≡ suc (suc (2 * at)) = omega arith in
    rw (put, place) (rw first at whole)

module _ {a b old new put : List ℕ} {i j : ℕ} (s : Sides a b old new i j) where
  -- A step that is written is the first of the rest: one of a's ..
  pub sides_first : Next a i b j true → put ≡ sets new (2 * (i + j)) (bytes_of (step_at a i ∷ [])) → Sides a b old put (i + 1) j
  sides_first h e = record {
    first = omega arith;
    second = s.second;
    size = rw e (simp length-set s.size);
    rest = stored_first new (i + j) h.1 s.rest e (omega arith);
  }

  -- .. or of b's.
  pub sides_second : Next a i b j false → put ≡ sets new (2 * (i + j)) (bytes_of (step_at b j ∷ [])) → Sides a b old put i (j + 1)
  sides_second h e = record {
    first = s.first;
    second = omega arith;
    size = rw e (simp length-set s.size);
    rest = stored_first new (i + j) h.1 s.rest e (omega arith);
  }

-- At the end all is written.
pub sides_end : {a b old new : List ℕ} {i j : ℕ} → Sides a b old new i j → length a / 2 + length b / 2 ≤ i + j
    → new ≡ sets old 0 (bytes_of (merged (steps_of a) (steps_of b)))
unfolding merged
sides_end {a} {b} {i = i} {j} s h =
    let p : i ≡ length a / 2 = omega (arith, s.first, s.second) in
    let q : j ≡ length b / 2 = omega (arith, s.first, s.second) in
    rw (no_step a i p, no_step b j q) at s.rest
