-- The schedule that was written reaches the target, so it is legal, its depths are those of its steps, and replay accepts it.
use mathlib.Core.Bool.{true, ◌&&◌}
use mathlib.Core.List.{List, ◌++◌}
use mathlib.Core.Path.{◌≡◌, sym}
use Prim.Native.Nat.{ℕ, ◌+◌, ◌*◌, ◌≤◌}
use native.Mathlib.Omega.{arith}
use lib.Dec.{leb, leb→le}
use lib.ListN.{length, take, drop}
use lib.Seq.{sets, sets-eq, length-take-le}
use Rattle.std.proofs.Common.{append_assoc}
use Rattle.std.proofs.lemmas.List.{drop-append-le, take-append-drop}
use Rattle.model.specs.declared.Depths.{Depths}
use Rattle.model.specs.declared.Model.{Model}
use Rattle.model.specs.Depths.{depths_of}
use Rattle.model.specs.First.{LeastSchedule}
use Rattle.model.specs.Fits.{Fits}
use Rattle.model.specs.Results.{accepted}
use Rattle.model.specs.Schedules.{bytes_of, steps_of, Stored, most_steps, most_bytes}
use Rattle.model.specs.Tables.{table_fits}
use Rattle.model.specs.Valid.{Valid}
use Rattle.model.specs.Walk.{at_target}
use Rattle.model.proofs.Granted.{granted}
use Rattle.model.proofs.Stores.{length_bytes, stored_front, stored_steps}
use Rattle.model.proofs.Tests.{both, passed}
use Rattle.replay.specs.Replay.{replay_of}
use Rattle.replay.proofs.Accepts.{accepts}
use Rattle.depths.specs.Heights.{Legal}
use Rattle.depths.proofs.Climbing.{legal}
use Rattle.std.specs.Prelude.{Ok}
use Rattle.judge.specs.declared.Verdict.{Verdict}
use Rattle.judge.specs.declared.Verdict.TheVariants.{Clear, Long, Found}
use Rattle.judge.specs.Answer.{refusal_of, TrueOf, Answers, Witness, Shows}
use Rattle.judge.proofs.Reaching.{target_met}

-- What stands in a store with room for it is legal, and its depths are those of its steps.
module _ {m : Model} {n : ℕ} {old new : List ℕ} (s : Stored (LeastSchedule m n) n 0 old new) (room : 2 * n ≤ length old) where
  pub stored_legal : Fits m → Legal m (steps_of (take (2 * n) new))
  stored_legal f = rw (stored_steps s room) (legal f s.run.run.leads.walked)

  pub stored_witness : {depths : Depths} → depths ≡ depths_of m (steps_of (take (2 * n) new)) → Stored (Witness m n depths) n 0 old new
  stored_witness e =
      record {
        steps = s.steps;
        run = record { least = s.run; deep = rw (stored_steps s room) at e };
        count = s.count;
        shown = s.shown;
      }

-- What is put at the front of a store's front is put at the front of the store ..
front_set : (old b : List ℕ) (n : ℕ) → length b ≤ n → n ≤ length old → sets (take n old) 0 b ++ drop n old ≡ sets old 0 b
front_set old b n h k =
    let size = length-take-le n old k in
    let place : 0 + length b ≡ length b = omega arith in
    rw (
      sets-eq b (take n old) 0 (omega (arith, size)),
      sets-eq b old 0 (omega arith),
      place,
      append_assoc,
      ← drop-append-le (length b) (take n old) (drop n old) (omega (arith, size)),
      take-append-drop n old,
    )

-- .. so what a verdict shows in the front it shows in the store.
pub shown_whole : (m : Model) (v : Verdict) (old new : List ℕ) → most_bytes ≤ length old → TrueOf m v
    → Shows m v (take most_bytes old) new → Shows m v old (new ++ drop most_bytes old)
shown_whole m Clear old new h t e = rw (e, take-append-drop most_bytes old)
shown_whole m Long old new h t e = rw (e, take-append-drop most_bytes old)
shown_whole m (Found n depths) old new h t s =
    let size = length_bytes s.steps in
    record {
      steps = s.steps;
      run = s.run;
      count = s.count;
      shown = rw s.shown (front_set old (bytes_of s.steps) most_bytes (omega (arith, size, s.count, t.0)) h);
    }

-- Replay accepts a schedule that stands in a store with room for it, and says that it reaches the target, and how deep it went.
pub replayed : (m : Model) {n : ℕ} {depths : Depths} {old new : List ℕ} → Valid m → n ≤ most_steps → 2 * n ≤ length old
    → Stored (Witness m n depths) n 0 old new → replay_of m (take (2 * n) new) ≡ accepted (record { shared = m.target; reached = true; depths = depths })
replayed m {n} {depths} {old} {new} v most room s =
    let reaches = s.run.least.run in
    (accepts m (take (2 * n) new) m.target true depths).1 (record {
      valid = v;
      steps = s.steps;
      written = stored_front s room;
      most = omega (arith, s.count);
      stacks = reaches.stacks;
      leads = rw (target_met reaches).0 at reaches.leads;
      target = sym (passed (at_target m m.target.0 reaches.stacks) (rw (target_met reaches).0 at reaches.target));
      deep = s.run.deep;
    })

-- Where the judge says Found n, replay accepts the first 2n bytes of the schedule store, and says that they reach the target, as deep as
-- the judge says.
pub found_replayed : (m : Model) (lines : ℕ) {n : ℕ} {depths : Depths} {old new : List ℕ}
    → Answers m (refusal_of m lines (length old)) (Ok (Found n depths)) → Stored (Witness m n depths) n 0 old new
    → replay_of m (take (2 * n) new) ≡ accepted (record { shared = m.target; reached = true; depths = depths })
unfolding refusal_of
found_replayed m lines {n} {depths} {old} a s =
    let known = (granted m (table_fits m lines && leb most_bytes (length old))).0 a.0 in
    let room = leb→le most_bytes (length old) ((both (table_fits m lines) (leb most_bytes (length old))).0 known.1).1 in
    replayed m known.0 a.1.0 (omega (arith, room, a.1.0)) s
