-- Turns that have a step. Where turn numbers never fall, a step is the last of its turn exactly if the next one is of another turn;
-- and there are no more turns with a step than turns.
use mathlib.Core.Bool.{Bool, true, false, cond, not}
use mathlib.Core.List.{List, [], ◌∷◌}
use mathlib.Core.Logic.{⊎_elim}
use mathlib.Core.Path.{◌≡◌, refl, sym, subst}
use Prim.Native.Nat.{ℕ, zero, suc, ◌+◌, ◌*◌, ◌/◌, ◌≤◌, ◌<◌}
use native.Mathlib.Nat.{eq-or-lt_of_le}
use native.Mathlib.Omega.{arith}
use lib.ListN.{length, drop, length-drop}
use lib.Dec.{eqb}
use mir.Val.{bool_byte}
use borrow.Author.Tests.{eq-eqb, ne_eqb, eqb-true, eqb-false}
use Rattle.model.specs.declared.Model.{Model}
use Rattle.model.specs.Results.{accepted}
use Rattle.model.specs.Runs.{TurnsBelow}
use Rattle.model.specs.Schedules.{steps_of, step_at, steps_from}
use Rattle.model.specs.Walk.{Config, Step, step_from, walk}
use Rattle.model.proofs.Results.{through}
use Rattle.model.proofs.Steps.{stepped}
use Rattle.model.proofs.Stores.{first_step, short}
use Rattle.page.specs.Page.{step_in, turns_in}
use Rattle.page.specs.Parts.{Rises, FootFits, Pageable}

-- The turns of a walk never fall, and are below 2K.
pub walk_rises : (m : Model) (ss : List Step) (c : Config) {d : Config} → walk m c ss ≡ accepted d
    → Rises c.turn ss × TurnsBelow (2 * m.k) ss
unfolding walk
walk_rises m [] c e = (tt, tt)
walk_rises m (s ∷ ss) c e =
    let t = through (step_from m c s) (λ d. walk m d ss) e in
    let p = stepped {m = m} {c = c} {s = s} t.1 in
    let rest = walk_rises m ss t.0 t.2 in
    let at : t.0.turn ≡ s.turn = rw p.come in
    ((p.later, subst (λ n. Rises n ss) at rest.0), (p.early, rest.1))

-- No step is made in a turn below all others.
none_below : (t u : ℕ) (ss : List Step) → t < u → Rises u ss → step_in t ss ≡ false
unfolding step_in
none_below t u [] h r = refl
none_below t u (s ∷ ss) h r = rw (ne_eqb s.turn t (λ e. omega arith)) (none_below t s.turn ss (omega arith) r.1)

-- With no step in their first turn, the turns begin later.
later : (t : ℕ) (ss : List Step) → Rises t ss → step_in t ss ≡ false → Rises (suc t) ss
unfolding step_in
later t [] r e = tt
later t (s ∷ ss) r e =
    ⊎_elim (λ h. absurd (let z = rw (eq-eqb s.turn t (sym h)) at e in let o : ◌≡◌ {A = ℕ} 0 1 = cc in omega arith)) (λ h. (h, r.1))
    (eq-or-lt_of_le r.0)

-- A turn that counts leaves one fewer for the steps after it.
counted : (found : Bool) (x t u n : ℕ) → t ≤ u → (found ≡ true → x + u ≤ n) → (found ≡ false → x + suc u ≤ n)
    → cond found 0 1 + x + t ≤ n
counted true x t u n h k j = omega (arith, k refl)
counted false x t u n h k j = omega (arith, j refl)

-- So turns with a step are no more than the turns from the first on.
few_turns : (n t : ℕ) (ss : List Step) → t ≤ n → Rises t ss → TurnsBelow n ss → turns_in ss + t ≤ n
unfolding turns_in
few_turns n t [] h r b = omega arith
few_turns n t (s ∷ ss) h r b =
    counted (step_in s.turn ss) (turns_in ss) t s.turn n r.0
    (λ e. few_turns n s.turn ss (omega (arith, b.0)) r.1 b.1)
    (λ e. few_turns n (suc s.turn) ss b.0 (later s.turn ss r.1 e) b.1)

-- A step is made in some turn.
some_turn : (s : Step) (ss : List Step) → 0 < turns_in (s ∷ ss)
unfolding turns_in step_in
some_turn s [] = omega arith
some_turn s (u ∷ ss) = omega (arith, some_turn u ss)

-- What the foot shows fits its columns.
pub foot_fits : {m : Model} {l : List ℕ} → Pageable m l → FootFits (length l / 2) (turns_in (steps_of l))
foot_fits {m} {l} p =
    record {
      most = omega (arith, p.most);
      few = omega (arith, few_turns (2 * m.k) 0 (steps_of l) (omega arith) p.rises p.below, p.fits.k);
      some = λ h. rw (first_step l 0 h) (some_turn (step_at l 0) (steps_from l 1));
    }

-- Turns that begin at one begin at an earlier one.
earlier : (t u : ℕ) (ss : List Step) → t ≤ u → Rises u ss → Rises t ss
earlier t u [] h r = tt
earlier t u (s ∷ ss) h r = (omega (arith, r.0), r.1)

module _ (l : List ℕ) (r : Rises 0 (steps_of l)) where
  -- The turns of the steps from place i on do not fall ..
  rises_from : (i : ℕ) → i ≤ length l / 2 → Rises 0 (steps_from l i)
  rises_from zero h = r
  rises_from (suc i) h =
      let here = rw (first_step l i (omega arith)) at (rises_from i (omega arith)) in
      let next : i + 1 ≡ suc i = omega arith in
      rw (← next) (earlier 0 _ (steps_from l (i + 1)) (omega arith) here.1)

  -- .. nor below the turn of the step before.
  rises_at : (i : ℕ) → i < length l / 2 → Rises (step_at l i).turn (steps_from l (i + 1))
  rises_at i h = (rw (first_step l i h) at (rises_from i (omega arith))).1

  -- A step is not the last of its turn if the next one is in the same turn ..
  pub same_turn : (i : ℕ) → i + 1 < length l / 2 → (step_at l (i + 1)).turn ≡ (step_at l i).turn
      → step_in (step_at l i).turn (steps_from l (i + 1)) ≡ true
  unfolding step_in
  same_turn i h e = rw (first_step l (i + 1) h, eq-eqb _ _ e)

  -- .. it is, if that one is in another ..
  pub other_turn : (i : ℕ) → i + 1 < length l / 2 → ((step_at l (i + 1)).turn ≡ (step_at l i).turn → ⊥)
      → step_in (step_at l i).turn (steps_from l (i + 1)) ≡ false
  unfolding step_in
  other_turn i h d =
      let here = rw (first_step l (i + 1) h) at (rises_at i (omega arith)) in
      ⊎_elim (λ e. absurd (d (sym e)))
      (λ k. none_below (step_at l i).turn ((step_at l i).turn + 1) (steps_from l (i + 1)) (omega arith)
      (rw (first_step l (i + 1) h) (omega arith, here.1)))
      (eq-or-lt_of_le here.0)

  -- .. and if there is none.
  pub last_step : (i : ℕ) → length l / 2 ≤ i + 1 → step_in (step_at l i).turn (steps_from l (i + 1)) ≡ false
  unfolding step_in
  last_step i h = rw (short (drop (2 * (i + 1)) l) (simp length-drop (omega arith)))

  -- So the test of the next step's turn tells.
  pub next_tells : (i : ℕ) → i + 1 < length l / 2
      → not (eqb (step_at l (i + 1)).turn (step_at l i).turn) ≡ not (step_in (step_at l i).turn (steps_from l (i + 1)))
  next_tells i h = go (eqb (step_at l (i + 1)).turn (step_at l i).turn) refl
    where
      go : (b : Bool) → eqb (step_at l (i + 1)).turn (step_at l i).turn ≡ b → not b ≡ not (step_in (step_at l i).turn (steps_from l (i + 1)))
      go true e = rw (same_turn i h (eqb-true _ _ e)) refl
      go false e = rw (other_turn i h (eqb-false _ _ e)) refl

-- A turn that ends is counted as a byte is, 1 or 0.
pub turn_byte : (b : Bool) → bool_byte (not b) ≡ cond b 0 1
turn_byte true = refl
turn_byte false = refl

pub byte_low : (b : Bool) → bool_byte b ≤ 1
byte_low true = omega arith
byte_low false = omega arith

-- The turns that end at place i, and those that end later.
pub turns_on : (l : List ℕ) (i : ℕ) → i < length l / 2
    → turns_in (steps_from l i) ≡ cond (step_in (step_at l i).turn (steps_from l (i + 1))) 0 1 + turns_in (steps_from l (i + 1))
unfolding turns_in
turns_on l i h = rw (first_step l i h)

-- Past the last step no turn ends.
pub turns_end : (l : List ℕ) (i : ℕ) → length l / 2 ≤ i → turns_in (steps_from l i) ≡ 0
unfolding turns_in
turns_end l i h = rw (short (drop (2 * i) l) (simp length-drop (omega arith)))
