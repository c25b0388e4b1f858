-- The lines of a schedule put step by step: the lines that stand and those of the steps left are all of them.
use mathlib.Core.List.{List, [], ◌++◌, append_assoc, append-nil}
use mathlib.Core.Path.{◌≡◌, refl}
use Prim.Native.Nat.{ℕ, ◌+◌, ◌*◌, ◌/◌, ◌≤◌, ◌<◌}
use native.Mathlib.Omega.{arith}
use lib.ListN.{length, drop, length-append, length-drop}
use Rattle.writer.specs.declared.output.Output.{Output}
use Rattle.writer.specs.Output.{Appends, HasRoom}
use Rattle.writer.proofs.Outputs.{nothing, ◌then◌}
use Rattle.model.specs.Schedules.{steps_of, step_at, steps_from}
use Rattle.model.proofs.Stores.{first_step, short}
use Rattle.report.specs.Text.{step_line, step_lines}

-- The lines of the first i steps of a schedule stand.
pub record Listed (l : List ℕ) (o p : Output) (i : ℕ) : Type 0 where
  pub place : i ≤ length l / 2
  pub done : List ℕ
  pub put : Appends o p done
  pub whole : done ++ step_lines (steps_from l i) ≡ step_lines (steps_of l)
  pub room : HasRoom o (step_lines (steps_of l))

pub listed_start : (l : List ℕ) (o : Output) → HasRoom o (step_lines (steps_of l)) → Listed l o o 0
listed_start l o h = record { place = omega arith; done = []; put = nothing o; whole = refl; room = h }

module _ {l : List ℕ} {o p : Output} {i : ℕ} (d : Listed l o p i) where
  -- The lines of the next step and of those after it.
  parted : i < length l / 2
      → d.done ++ (step_line (step_at l i) ++ step_lines (steps_from l (i + 1))) ≡ step_lines (steps_of l)
  unfolding step_lines
  parted h = rw (first_step l i h) at d.whole

  -- There is room for the next step's line ..
  pub listed_room : i < length l / 2 → HasRoom p (step_line (step_at l i))
  listed_room h =
      let all = simp length-append at (rw (← parted h) at d.room) in
      omega (arith, d.put.put.ends, d.put.size)

  -- .. which is put ..
  pub listed_next : i < length l / 2 → {q : Output} → Appends p q (step_line (step_at l i)) → Listed l o q (i + 1)
  listed_next h a =
      record {
        place = omega arith;
        done = d.done ++ step_line (step_at l i);
        put = d.put then a;
        whole = rw append_assoc (parted h);
        room = d.room;
      }

  -- .. until none is left.
  pub listed_end : length l / 2 ≤ i → Appends o p (step_lines (steps_of l))
  unfolding step_lines
  listed_end h =
      let none_left : steps_from l i ≡ [] = short (drop (2 * i) l) (simp length-drop (omega arith)) in
      let all : d.done ≡ step_lines (steps_of l) = rw (none_left, append-nil) at d.whole in
      rw all at d.put
