-- The place of a written outcome is where its schedule stands: it counts the steps that are written before it, and these take up the store
-- from its front on.
use mathlib.Core.Bool.{true, false}
use mathlib.Core.List.{List, [], ◌∷◌, ◌++◌, append_assoc}
use mathlib.Core.Path.{◌≡◌, refl, sym, ap, ◌∙◌}
use Prim.Native.Nat.{ℕ, zero, suc, ◌+◌, ◌*◌, ◌≤◌, ◌<◌}
use native.Mathlib.Decide.{dec_lt}
use native.Mathlib.Omega.{arith}
use lib.ListN.{length, get_or, take, drop, length-append}
use lib.Seq.{sets, sets-eq, length-sets, length-take-le, take_at, drop_at}
use Rattle.model.specs.declared.Model.{Model}
use Rattle.model.specs.First.{LeastSchedule}
use Rattle.model.specs.Schedules.{most_steps, bytes_of}
use Rattle.model.specs.Verdict.{Verdict, clear, long, found}
use Rattle.model.specs.Walk.{Step}
use Rattle.model.specs.Zero.{zero_model}
use Rattle.model.proofs.Stores.{sets_append, length_bytes, bytes_append}
use Rattle.batch.specs.declared.Outcome.{Outcome}
use Rattle.batch.specs.Batch.{Schedules, end, skipped, written, Together}
use Rattle.batch.specs.Outcomes.{without, place_of, outcome_of, used_by, outcomes_from}
use Rattle.batch.proofs.Placing.{fits, fits_not, added, added_none, stays_low}
use Rattle.batch.proofs.Ranges.{roomy}

-- The least schedule of a model stands in a store where an outcome says.
pub record StandsAt (m : Model) (o : Outcome) (store : List ℕ) : Type 0 where
  pub steps : List Step
  pub least : LeastSchedule m o.steps steps
  pub bytes : take (2 * o.steps) (drop (2 * o.place) store) ≡ bytes_of steps

-- The place of an outcome that is written.
its_place : (used : ℕ) (v : Verdict) (o : Outcome) → o ≡ outcome_of used v → o.written ≡ true → o.place ≡ place_of used o.steps
unfolding outcome_of
its_place used clear o e w = absurd (let z : ◌≡◌ {A = ℕ} 0 1 = cc in omega arith)
its_place used long o e w = absurd (let z : ◌≡◌ {A = ℕ} 0 1 = cc in omega arith)
its_place used (found n) o e w = elim (dec_lt most_steps (used + n)) [
  | yes h ↦ let p = e ∙ fits_not used n h in absurd (let z : ◌≡◌ {A = ℕ} 0 1 = cc in omega arith)
  | no h ↦ rw (e ∙ fits used n (omega arith)) refl
]

-- What is stored from a place on stands there.
stored_there : (old xs ys : List ℕ) (at n : ℕ) → length xs ≡ n → at + length (xs ++ ys) ≤ length old
    → take n (drop at (sets old at (xs ++ ys))) ≡ xs
stored_there old xs ys at n e h =
    let front : length (take at old) ≡ at = length-take-le at old (omega arith) in
    let rest = drop (at + length (xs ++ ys)) old in
    rw (sets-eq (xs ++ ys) old at h, append_assoc, drop_at (take at old) ((xs ++ ys) ++ rest) at front, append_assoc)
    (take_at xs (ys ++ drop (at + length (xs ++ ys)) old) n e)

-- The first of the schedules, whose outcome has this place.
first_stands : (used n : ℕ) (old : List ℕ) (ss : List Step) {m : Model} {o : Outcome} {ts : List Step} → o.steps ≡ n
    → o.place ≡ place_of used n → LeastSchedule m o.steps ts → 2 * used + length (bytes_of (ts ++ ss)) ≤ length old
    → StandsAt m o (sets old (2 * used) (bytes_of (ts ++ ss)))
first_stands used zero old ss {ts = []} e p l h = record { steps = []; least = l; bytes = rw e refl }
first_stands used zero old ss {ts = t ∷ ts} e p l h = absurd (omega (arith, l.count))
first_stands used (suc n) old ss {o = o} {ts = ts} e p l h =
    let size : length (bytes_of ts) ≡ 2 * o.steps = omega (arith, length_bytes ts, l.count) in
    record {
      steps = ts;
      least = l;
      bytes = rw (p, bytes_append) (stored_there old (bytes_of ts) (bytes_of ss) (2 * used) (2 * o.steps) size (rw (bytes_append ts ss) at h));
    }

-- The steps that an outcome with a schedule adds.
adds : (used : ℕ) (o : Outcome) {m : Model} {ts : List Step} → o.written ≡ true → LeastSchedule m o.steps ts
    → used_by used o ≡ used + length ts
adds used o f l = sym (added used o f) ∙ ap (λ n. used + n) (sym l.count)

-- The others stand behind the first, ..
others_stand : (used : ℕ) (old : List ℕ) (ts ss : List Step) {m : Model} {o : Outcome} {next : ℕ} → next ≡ used + length ts
    → StandsAt m o (sets (sets old (2 * used) (bytes_of ts)) (2 * next) (bytes_of ss)) → StandsAt m o (sets old (2 * used) (bytes_of (ts ++ ss)))
others_stand used old ts ss {next = next} e s =
    let behind : 2 * next ≡ 2 * used + length (bytes_of ts) = omega (arith, e, length_bytes ts) in
    rw (bytes_append ts ss, ← sets_append, ← behind) s

-- .. where there is room for them.
others_fit : (used : ℕ) (old : List ℕ) (ts ss : List Step) {next : ℕ} → next ≡ used + length ts
    → 2 * used + length (bytes_of (ts ++ ss)) ≤ length old → 2 * next + length (bytes_of ss) ≤ length (sets old (2 * used) (bytes_of ts))
others_fit used old ts ss e r =
    let all = ap length (bytes_append ts ss) ∙ length-append (bytes_of ts) (bytes_of ss) in
    omega (arith, e, r, all, length-sets old (2 * used) (bytes_of ts), length_bytes ts)

-- All of them, one after another.
abbrev EachStands : List Model → List Outcome → List Step → Type 0
EachStands ms os ss = (used : ℕ) (vs : List Verdict) (i : ℕ) (old : List ℕ) → os ≡ outcomes_from used vs → i < length os
    → (get_or os i (without 0 0)).written ≡ true → 2 * used + length (bytes_of ss) ≤ length old
    → StandsAt (get_or ms i zero_model) (get_or os i (without 0 0)) (sets old (2 * used) (bytes_of ss))

behind_skipped : (m : Model) (ms : List Model) (o : Outcome) (os : List Outcome) (ss : List Step) → o.written ≡ false → EachStands ms os ss
    → EachStands (m ∷ ms) (o ∷ os) ss
unfolding outcomes_from
behind_skipped m ms o os ss f k used [] i old e h w r = absurd (let z : ◌≡◌ {A = ℕ} 0 1 = cc in omega arith)
behind_skipped m ms o os ss f k used (v ∷ vs) zero old e h w r = absurd (let z : ◌≡◌ {A = ℕ} 0 1 = cc in omega arith)
behind_skipped m ms o os ss f k used (v ∷ vs) (suc i) old e h w r =
    let first : o ≡ outcome_of used v = cc in
    let others : os ≡ outcomes_from (used_by used (outcome_of used v)) vs = cc in
    let same : used_by used (outcome_of used v) ≡ used = rw (← first) (sym (added_none used o f)) in
    k used vs i old (rw same at others) (omega arith) w r

behind_written : (m : Model) (ms : List Model) (o : Outcome) (os : List Outcome) (ss ts : List Step) → o.written ≡ true
    → LeastSchedule m o.steps ts → EachStands ms os ss → EachStands (m ∷ ms) (o ∷ os) (ts ++ ss)
unfolding outcomes_from
behind_written m ms o os ss ts f l k used [] i old e h w r = absurd (let z : ◌≡◌ {A = ℕ} 0 1 = cc in omega arith)
behind_written m ms o os ss ts f l k used (v ∷ vs) zero old e h w r =
    let first : o ≡ outcome_of used v = cc in first_stands used o.steps old ss refl (its_place used v o first w) l r
behind_written m ms o os ss ts f l k used (v ∷ vs) (suc i) old e h w r =
    let first : o ≡ outcome_of used v = cc in
    let others : os ≡ outcomes_from (used_by used (outcome_of used v)) vs = cc in
    let next = adds used o f l in
    others_stand used old ts ss next
    (k (used_by used o) vs i (sets old (2 * used) (bytes_of ts)) (rw (← first) at others) (omega arith) w (others_fit used old ts ss next r))

each_stands : {ms : List Model} {os : List Outcome} {ss : List Step} → Schedules ms os ss → EachStands ms os ss
each_stands end = λ used vs i old e h w r. absurd (omega arith)
each_stands (skipped {m = m} {ms = ms} {o = o} {os = os} {ss = ss} f p) = behind_skipped m ms o os ss f (each_stands p)
each_stands (written {m = m} {ms = ms} {o = o} {os = os} {ss = ss} {ts = ts} f l p) = behind_written m ms o os ss ts f l (each_stands p)

-- No more than 4,095 steps are written.
steps_fit : (used : ℕ) (vs : List Verdict) {ms : List Model} {os : List Outcome} {ss : List Step} → Schedules ms os ss
    → os ≡ outcomes_from used vs → used ≤ most_steps → used + length ss ≤ most_steps
unfolding outcomes_from
steps_fit used vs end e h = omega arith
steps_fit used [] (skipped f p) e h = absurd (let z : ◌≡◌ {A = ℕ} 0 1 = cc in omega arith)
steps_fit used [] (written f l p) e h = absurd (let z : ◌≡◌ {A = ℕ} 0 1 = cc in omega arith)
steps_fit used (v ∷ vs) (skipped {o = o} {os = os} f p) e h =
    let first : o ≡ outcome_of used v = cc in
    let others : os ≡ outcomes_from (used_by used (outcome_of used v)) vs = cc in
    let same : used_by used (outcome_of used v) ≡ used = rw (← first) (sym (added_none used o f)) in
    steps_fit used vs p (rw same at others) h
steps_fit used (v ∷ vs) (written {o = o} {os = os} {ss = ss} {ts = ts} f l p) e h =
    let first : o ≡ outcome_of used v = cc in
    let others : os ≡ outcomes_from (used_by used (outcome_of used v)) vs = cc in
    let rest = steps_fit (used_by used (outcome_of used v)) vs p others (stays_low used v h) in
    let next : used_by used (outcome_of used v) ≡ used + length ts = rw (← first) (adds used o f l) in
    omega (arith, rest, next, length-append ts ss)

-- So each schedule of a tray that is written stands where its outcome says.
pub each_place : {tray : List ℕ} {places : ℕ} {os : List Outcome} {old new : List ℕ} (i : ℕ) (t : Together tray places os old new)
    → i < length os → (get_or os i (without 0 0)).written ≡ true → StandsAt (get_or t.models i zero_model) (get_or os i (without 0 0)) new
each_place {places = places} {old = old} i t h w =
    let j = t.judged in
    let most = steps_fit 0 j.verdicts j.schedules j.outcomes (omega arith) in
    let room = roomy (length t.models) places (length old) t.sizes in
    rw j.stored (each_stands j.schedules 0 j.verdicts i old j.outcomes h w (omega (arith, most, room, length_bytes j.steps)))
