-- What a schedule that replay accepts gives the page: the walk makes every step, so each has its line, and the page has 73 bytes for
-- each step and 73 for the foot.
use mathlib.Core.Bool.{false}
use mathlib.Core.List.{List, [], ◌∷◌}
use mathlib.Core.Path.{◌≡◌, refl, ap, ◌∙◌}
use Prim.Native.Nat.{ℕ, suc, ◌+◌, ◌*◌, ◌/◌, ◌≤◌}
use native.Mathlib.Omega.{arith}
use lib.ListN.{length, length-append}
use Rattle.model.specs.declared.Model.{Model}
use Rattle.model.specs.Fits.{Fits}
use Rattle.model.specs.Results.{accepted}
use Rattle.model.specs.Schedules.{steps_of}
use Rattle.model.specs.Walk.{Config, Step, start_of, step_from, walk}
use Rattle.model.proofs.Ranges.{valid_fits}
use Rattle.model.proofs.Results.{through}
use Rattle.model.proofs.Stores.{length_bytes, steps_bytes, length_steps}
use Rattle.replay.specs.declared.Replayed.{Replayed}
use Rattle.replay.specs.Replay.{replay_of, Legally}
use Rattle.replay.proofs.Accepts.{accepts}
use Rattle.page.specs.Page.{page_lines, page_of, turns_in}
use Rattle.page.specs.Parts.{Pageable}
use Rattle.page.proofs.Printing.{shows}
use Rattle.page.proofs.Turns.{walk_rises, foot_fits}
use Rattle.page.proofs.Widths.{length_line, length_foot}

-- Each step of a walk has its line.
length-lines : {m : Model} → Fits m → (ss : List Step) (c : Config) (n : ℕ) {d : Config} → n + length ss ≤ 10000
    → walk m c ss ≡ accepted d → length (page_lines m n c ss) ≡ 73 * length ss
unfolding walk page_lines
length-lines f [] c n h e = refl
length-lines {m} f (s ∷ ss) c n h e =
    let t = through (step_from m c s) (λ d. walk m d ss) e in
    let line = length_line {n = n} {s = s} t.0 (shows m c s n (omega arith) f t.1) in
    let rest = length-lines f ss t.0 (suc n) (omega arith) t.2 in
    rw t.1 (simp length-append (omega arith))

module _ (m : Model) (l : List ℕ) {r : Replayed} (e : replay_of m l ≡ accepted r) where
  legal : Legally m l r.shared.0 r.reached r.depths
  legal = (accepts m l r.shared r.reached r.depths).0 e

  -- The walk of the schedule's bytes makes every step.
  walked : walk m (start_of m) (steps_of l)
      ≡ accepted (record { turn = legal.leads.turn; held = false; shared = r.shared.0; stacks = legal.stacks })
  walked =
      let same : steps_of l ≡ legal.steps = ap steps_of legal.written ∙ steps_bytes legal.steps in
      rw same legal.leads.walked

  -- A schedule that replay accepts can be put on a page ..
  pub pageable : Pageable m l
  pageable =
      let turns = walk_rises m (steps_of l) (start_of m) walked in
      record {
        fits = (valid_fits m).0 legal.valid;
        most = omega (arith, ap length legal.written, length_bytes legal.steps, legal.most);
        rises = turns.0;
        below = turns.1;
      }

  -- .. which has so many bytes.
  pub page_length : length (page_of m (steps_of l)) ≡ 73 * (length l / 2 + 1)
  unfolding page_of
  page_length =
      let size = length_steps l in
      let lines = length-lines pageable.fits (steps_of l) (start_of m) 1 (omega (arith, pageable.most)) walked in
      let foot = length_foot (length (steps_of l)) (turns_in (steps_of l)) (rw length_steps (foot_fits pageable)) in
      simp length-append (omega arith)
