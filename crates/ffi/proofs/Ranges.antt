-- What a call answers of a valid model is in range: a record has at most 670 bytes, a schedule at most 4,095 steps and depths of one more, a
-- walk stays in the states below g, a page has 73 bytes a step and 73 more, and a log takes at most 2,048 rounds.
use mathlib.Core.Bool.{Bool, true, false}
use mathlib.Core.List.{List, [], ◌∷◌}
use mathlib.Core.Path.{◌≡◌, refl, sym}
use Prim.Native.Nat.{ℕ, zero, suc, ◌≤◌, ◌<◌}
use native.Mathlib.Omega.{arith}
use lib.Dec.{leb}
use lib.ListN.{length}
use Rattle.model.specs.declared.Depths.{Depths}
use Rattle.model.specs.declared.Model.{Model}
use Rattle.model.specs.declared.ThreadId.TheVariants.{A, B}
use Rattle.model.specs.Schedules.{steps_of, most_steps, Stored}
use Rattle.model.specs.Results.{Result, refused, accepted, refuse, first_of}
use Rattle.model.specs.Valid.{Valid, store_refusal}
use Rattle.model.proofs.Ranges.{valid_fits}
use Rattle.model.proofs.Results.{apart, accepted_same, undue}
use Rattle.writer.proofs.Lengths.{at_most}
use Rattle.writer.specs.Writer.{record_of}
use Rattle.record.specs.Written.{written_of}
use Rattle.judge.specs.Answer.{Witness}
use Rattle.depths.proofs.Climbing.{legal, depth_most}
use Rattle.replay.specs.declared.Replayed.{Replayed}
use Rattle.replay.specs.Replay.{replay_of}
use Rattle.replay.proofs.Ranges.{replay_ends, refused_by}
use Rattle.logs.specs.declared.Followed.{Followed}
use Rattle.logs.specs.Log.{followed_of}
use Rattle.logs.proofs.Ranges.{follow_ends}
use Rattle.page.specs.Answer.{replay_refusal, page_refusal, paged_by, paged_of}
use Rattle.page.specs.Page.{page_of}
use Rattle.page.proofs.Pages.{pageable, page_length}
use Rattle.sequential.specs.Answer.{text_for, print_refusal, printed_by, printed_of}
use Rattle.sequential.proofs.Bounds.{text_bound}
use Rattle.ffi.specs.Replies.{FieldsFit}

-- The length of a record that was written fits in a field.
pub length_fits : (m : Model) (size : ℕ) {n : ℕ} → Valid m → accepted n ≡ written_of m size → n < 65536
unfolding written_of
length_fits m size v e =
    let same = accepted_same (undue (store_refusal m (leb (length (record_of m)) size)) (sym e)).1 in
    omega (arith, same, at_most m v)

-- A count of steps fits beside the depths of a schedule that stands in a store ..
pub found_fits : {m : Model} {n x : ℕ} {d : Depths} {old new : List ℕ} → Valid m → x ≤ 4096 → n ≤ most_steps
    → Stored (Witness m n d) n 0 old new → FieldsFit x d
found_fits {m} v low h s =
    let known = legal ((valid_fits m).0 v) s.run.least.run.leads.walked in
    rw s.run.deep (record {
      first = omega arith;
      a = omega (arith, depth_most A known, s.count);
      b = omega (arith, depth_most B known, s.count);
    })

-- .. and so do a state and depths that replay gives.
pub replay_fits : (m : Model) (bytes : List ℕ) {r : Replayed} → Valid m → accepted r ≡ replay_of m bytes → FieldsFit r.shared.0 r.depths
replay_fits m bytes v e =
    let h = rw (← e) at (replay_ends m bytes v) in
    record { first = omega (arith, h.0, ((valid_fits m).0 v).g); a = omega (arith, h.1); b = omega (arith, h.2) }

-- A page has at most 299,008 bytes, ..
pub page_fits : (m : Model) (l : List ℕ) (size : ℕ) {n : ℕ} → Valid m → accepted n ≡ paged_of m l size → n < 4294967296
unfolding paged_of page_refusal first_of
page_fits m l size {n} v told = go (replay_of m l) refl (leb (length (page_of m (steps_of l))) size) told
  where
    go : (r : Result Replayed) → replay_of m l ≡ r → (room : Bool)
        → accepted n ≡ paged_by (first_of (replay_refusal r ∷ refuse 7 room ∷ [])) (page_of m (steps_of l)) → n < 4294967296
    go (accepted r) e true h = omega (arith, accepted_same h, page_length m l e, (pageable m l e).most)
    go (accepted r) e false h = apart (sym h)
    go (refused zero) e room h = absurd (refused_by m l e refl)
    go (refused (suc k)) e room h = apart (sym h)

-- .. the text of a sequential system's rules far fewer than a number of 32 bits holds, ..
pub print_fits : (m : Model) (size : ℕ) {n : ℕ} → Valid m → accepted n ≡ printed_of m size → n < 4294967296
unfolding printed_of
print_fits m size {n} v told = go (print_refusal m size) told
  where
    go : (k : ℕ) → accepted n ≡ printed_by k (text_for m) → n < 4294967296
    go zero h = omega (arith, accepted_same h, text_bound ((valid_fits m).0 v))
    go (suc k) h = apart (sym h)

-- .. and the state and the rounds of a log fit in two fields.
pub follow_fits : (m : Model) (log : List ℕ) {f : Followed} → Valid m → accepted f ≡ followed_of m log
    → (f.shared.0 < 65536) × (f.rounds < 65536)
follow_fits m log v e =
    let h = rw (← e) at (follow_ends m log v) in (omega (arith, h.0, ((valid_fits m).0 v).g), omega (arith, h.1))
