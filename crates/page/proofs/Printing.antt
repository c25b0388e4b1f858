-- The lines of a walk put step by step: the lines that stand, and those of the steps left, walked from here, are all of them.
use mathlib.Core.List.{List, [], ◌∷◌, ◌++◌, append_assoc, append-nil}
use mathlib.Core.Path.{◌≡◌, refl, sym, ◌∙◌}
use Prim.Native.Nat.{ℕ, suc, ◌+◌, ◌-◌, ◌*◌, ◌/◌, ◌≤◌, ◌<◌}
use native.Mathlib.Numerals.{add-one}
use native.Mathlib.Omega.{arith}
use lib.ListN.{length, take, drop, length-drop}
use lib.Seq.{drop-cons, length-take-le}
use Rattle.model.specs.declared.Model.{Model}
use Rattle.model.specs.Fits.{Fits}
use Rattle.model.specs.Results.{refused, accepted}
use Rattle.model.specs.Schedules.{steps_of, step_at, steps_from}
use Rattle.model.specs.Walk.{owner_of, thread_of, Config, Step, step_from}
use Rattle.model.proofs.Inside.{applies_iff, fits_of}
use Rattle.model.proofs.Steps.{stepped}
use Rattle.model.proofs.Stores.{first_step, short}
use Rattle.walk.specs.declared.Walk.{Walk}
use Rattle.walk.specs.Stack.{config_of, walk_on, Counted, Room}
use Rattle.walk.proofs.Schedules.{walk_one}
use Rattle.writer.specs.declared.output.Output.{Output}
use Rattle.writer.specs.Output.{Appends, HasRoom}
use Rattle.writer.proofs.Outputs.{nothing, ◌then◌}
use Rattle.page.specs.Page.{page_line, page_lines}
use Rattle.page.specs.Parts.{StepFits, Pageable}
use Rattle.page.proofs.Widths.{length_line}

-- The part of a schedule that is walked for the line of step i.
abbrev part_at : List ℕ → ℕ → List ℕ
part_at l i = take (2 * i + 2 - 2 * i) (drop (2 * i) l)

-- It has two bytes ..
two_bytes : (l : List ℕ) (i : ℕ) → part_at l i ≡ take 2 (drop (2 * i) l)
two_bytes l i = let e : 2 * i + 2 - 2 * i ≡ 2 = omega arith in rw e

-- .. which are one step ..
one_step : (l : List ℕ) (i : ℕ) → i < length l / 2 → length (part_at l i) / 2 ≡ 1
one_step l i h = rw (two_bytes l i, length-take-le 2 (drop (2 * i) l) (simp length-drop (omega arith)))

-- .. and making its steps is making that step.
run_one : (m : Model) (c : Config) (l : List ℕ) (i : ℕ) → i < length l / 2
    → walk_on m c (steps_of (part_at l i)) ≡ step_from m c (step_at l i)
unfolding steps_of
run_one m c l i h =
    let only : steps_of (part_at l i) ≡ step_at l i ∷ [] =
    rw (two_bytes l i, drop-cons l (2 * i) 0 (omega arith), drop-cons l (suc (2 * i)) 0 (omega arith), add-one) in
    rw only (walk_one m c (step_at l i))

-- What a step that is made shows fits its columns.
pub shows : (m : Model) (c : Config) (s : Step) {d : Config} (n : ℕ) → n < 10000 → Fits m → step_from m c s ≡ accepted d
    → StepFits n s.turn s.rule d.shared
shows m c s n h f e =
    let p = stepped {m = m} {c = c} {s = s} e in
    let t = fits_of f (owner_of s.turn) in
    let rule = ((applies_iff (thread_of (owner_of s.turn) m) s.rule c.shared p.top).0 p.rule).listed in
    record {
      number = h;
      turns = omega (arith, p.early, f.k);
      rules = omega (arith, t.count);
      states = rw p.come (omega (arith, (t.rules s.rule rule).next, f.g));
    }

-- What the lines of a schedule l are put by: it can be put on a page, and there is room for the stacks and for the lines.
pub record Ready (m : Model) (l : List ℕ) (w : Walk) (a b : List ℕ) (o : Output) : Type 0 where
  pub pageable : Pageable m l
  pub stacks : Room (length l / 2) w a b
  pub room : o.at + 73 * (length l / 2) ≤ length o.store.now

-- The lines of the first i steps stand.
pub record Printing (m : Model) (l : List ℕ) (w : Walk) (a b : List ℕ) (o : Output) (v : Walk) (c d : List ℕ) (p : Output) (i : ℕ)
    : Type 0 where
  pub ready : Ready m l w a b o
  pub place : i ≤ length l / 2
  pub first : length c ≡ length a
  pub second : length d ≡ length b
  pub one : v.a ≤ w.a + i
  pub two : v.b ≤ w.b + i
  pub ends : p.at ≡ o.at + 73 * i
  pub done : List ℕ
  pub put : Appends o p done
  pub whole : done ++ page_lines m (i + 1) (config_of v c d) (steps_from l i) ≡ page_lines m 1 (config_of w a b) (steps_of l)

pub printing_start : {m : Model} {l : List ℕ} {w : Walk} {a b : List ℕ} {o : Output} → Ready m l w a b o
    → Printing m l w a b o w a b o 0
printing_start {o = o} r =
    record {
      ready = r;
      place = omega arith;
      first = refl;
      second = refl;
      one = omega arith;
      two = omega arith;
      ends = omega arith;
      done = [];
      put = nothing o;
      whole = refl;
    }

module _ {m : Model} {l : List ℕ} {w : Walk} {a b : List ℕ} {o : Output} {v : Walk} {c d : List ℕ} {z : Output} {i : ℕ}
    (p : Printing m l w a b o v c d z i) where
  -- Before the last, the next step is the part that is walked.
  module _ (h : i < length l / 2) where
    step : walk_on m (config_of v c d) (steps_of (part_at l i)) ≡ step_from m (config_of v c d) (step_at l i)
    step = run_one m (config_of v c d) l i h

    -- There is room for it ..
    pub step_room : Counted m × Room (length (part_at l i) / 2) v c d
    step_room =
        let stacks = p.ready.stacks in
        rw (one_step l i h) (
          record { a = p.ready.pageable.fits.a.count; b = p.ready.pageable.fits.b.count },
          record { first = omega (arith, stacks.first, p.one, p.first); second = omega (arith, stacks.second, p.two, p.second) },
        )

    module _ (u : Walk) (c' d' : List ℕ) (e : accepted (config_of u c' d') ≡ walk_on m (config_of v c d) (steps_of (part_at l i)))
        (k : (u.a ≤ v.a + length (part_at l i) / 2) × (u.b ≤ v.b + length (part_at l i) / 2)) (x : length c' ≡ length c)
        (y : length d' ≡ length d) where
      -- .. where it is made, its line fits its columns ..
      pub line_fits : StepFits (i + 1) (step_at l i).turn (step_at l i).rule u.shared.0
      line_fits =
          shows m (config_of v c d) (step_at l i) (i + 1) (omega (arith, p.ready.pageable.most)) p.ready.pageable.fits (sym (e ∙ step))

      line_size : length (page_line (i + 1) (step_at l i) (config_of u c' d')) ≡ 73
      line_size = length_line {s = step_at l i} (config_of u c' d') line_fits

      -- .. and there is room for it and its stacks ..
      pub line_stacks : (u.a ≤ length c') × (u.b ≤ length d')
      line_stacks =
          let grown = rw (one_step l i h) at k in
          let stacks = p.ready.stacks in
          (omega (arith, stacks.first, p.one, p.first), omega (arith, stacks.second, p.two, p.second))

      pub line_room : HasRoom z (page_line (i + 1) (step_at l i) (config_of u c' d'))
      line_room = omega (arith, line_size, p.ready.room, p.put.size, p.ends)

      -- .. it is put ..
      pub printing_next : {z' : Output} → Appends z z' (page_line (i + 1) (step_at l i) (config_of u c' d'))
          → Printing m l w a b o u c' d' z' (i + 1)
      unfolding page_lines
      printing_next q =
          let made : accepted (config_of u c' d') ≡ step_from m (config_of v c d) (step_at l i) = e ∙ step in
          let grown = rw (one_step l i h) at k in
          record {
            ready = p.ready;
            place = omega arith;
            first = x ∙ p.first;
            second = y ∙ p.second;
            one = omega (arith, p.one);
            two = omega (arith, p.two);
            ends = omega (arith, p.ends, q.put.ends, line_size);
            done = p.done ++ page_line (i + 1) (step_at l i) (config_of u c' d');
            put = p.put then q;
            whole = rw (append_assoc, add-one (i + 1)) (rw (first_step l i h, ← made) at p.whole);
          }

    -- .. and a step that is refused is the last.
    pub printing_stops : {n : ℕ} → refused n ≡ walk_on m (config_of v c d) (steps_of (part_at l i))
        → Appends o z (page_lines m 1 (config_of w a b) (steps_of l))
    unfolding page_lines
    printing_stops {n} e =
        let stopped : refused n ≡ step_from m (config_of v c d) (step_at l i) = e ∙ step in
        rw (rw (first_step l i h, ← stopped, append-nil) at p.whole) at p.put

  -- Past the last step all lines stand.
  pub printing_ends : length l / 2 ≤ i → Appends o z (page_lines m 1 (config_of w a b) (steps_of l))
  unfolding page_lines
  printing_ends h =
      rw (rw (short (drop (2 * i) l) (simp length-drop (omega arith)), append-nil) at p.whole) at p.put
