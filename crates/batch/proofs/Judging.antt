-- Records judged one after another. A first model judged, and the others behind its steps, are all judged; so what is judged up to a place
-- turns what the others come to into what all come to.
use mathlib.Core.Bool.{true, false, cond}
use mathlib.Core.List.{List, [], ◌∷◌, ◌++◌, append_assoc, append-nil}
use mathlib.Core.Path.{◌≡◌, refl, sym, ap, ◌∙◌}
use Prim.Native.Nat.{ℕ, ◌+◌, ◌*◌, ◌≤◌, ◌<◌}
use native.Mathlib.Decide.{dec_lt}
use native.Mathlib.Nat.{add-zero}
use native.Mathlib.Numerals.{add-one}
use native.Mathlib.Omega.{arith}
use lib.ListN.{length, get_or, take, drop, set, length-set, drop_of_length-le}
use lib.Seq.{sets, length-sets, take-suc-set, drop-cons}
use Rattle.model.specs.declared.Depths.{Depths}
use Rattle.model.specs.declared.Model.{Model}
use Rattle.std.specs.Prelude.{None, Some}
use Rattle.model.specs.Results.{accepted, refused}
use Rattle.model.specs.Schedules.{most_steps, bytes_of, Stored}
use Rattle.model.specs.Verdict.{clear, long, found, Judged}
use Rattle.model.specs.Walk.{Step}
use Rattle.model.specs.Zero.{zero_model}
use Rattle.model.proofs.Stores.{sets_append, length_bytes, bytes_append, stored_front}
use Rattle.judge.specs.Answer.{Witness}
use Rattle.model.proofs.Results.{apart}
use Rattle.record.specs.declared.Front.{Front}
use Rattle.tray.specs.Answer.{first_reading_of, AtFront}
use Rattle.tray.specs.Tray.{first, tray_of, rest_of}
use Rattle.tray.specs.Whole.{ReadAs, next}
use Rattle.batch.specs.declared.Outcome.{Outcome}
use Rattle.batch.specs.Batch.{most_records, Schedules, end, skipped, written, JudgedFrom}
use Rattle.batch.specs.Each.{JudgedAlone, EachJudged}
use Rattle.batch.specs.Outcomes.{without, outcome_of, used_by, outcomes_from}
use Rattle.batch.proofs.Counting.{Taken, taken, part_from}
use Rattle.batch.proofs.Placing.{fits, fits_not, added, added_none, stays_low}

-- No model, no outcome, and the store as it was.
pub nobody : (used : ℕ) (store : List ℕ) → JudgedFrom used [] [] store store
unfolding outcomes_from
nobody used store = record { verdicts = []; judged = tt; outcomes = refl; steps = []; schedules = end; stored = refl }

-- Where nothing is found there is no schedule, and nothing is stored.
pub clear_alone : (used : ℕ) {m : Model} {o : Outcome} (store : List ℕ) → Judged m clear → o ≡ without 0 0
    → JudgedAlone used m o store store
unfolding outcome_of
clear_alone used store j e =
    record { verdict = clear; judged = j; outcome = e; steps = []; schedule = skipped (ap (λ (x : Outcome). x.written) e) end; stored = refl }

pub long_alone : (used : ℕ) {m : Model} {o : Outcome} (store : List ℕ) → Judged m long → o ≡ without 1 0
    → JudgedAlone used m o store store
unfolding outcome_of
long_alone used store j e =
    record { verdict = long; judged = j; outcome = e; steps = []; schedule = skipped (ap (λ (x : Outcome). x.written) e) end; stored = refl }

-- Found: the front of the schedule's own store is put behind the steps used, or nothing is.
pub found_alone : (used n : ℕ) {m : Model} {d : Depths} {o : Outcome} {blank own old new : List ℕ} → Judged m (found n)
    → Stored (Witness m n d) n 0 blank own → 2 * n ≤ length blank → o ≡ outcome_of used (found n)
    → new ≡ cond o.written (sets old (2 * used) (take (2 * n) own)) old → JudgedAlone used m o old new
found_alone used n {m} {o = o} {own = own} {old = old} {new = new} j s room e b = elim (dec_lt most_steps (used + n)) [
  | yes h ↦
      let p = e ∙ fits_not used n h in
      let off : o.written ≡ false = ap (λ (x : Outcome). x.written) p in
      record { verdict = found n; judged = j; outcome = e; steps = []; schedule = skipped off end; stored = rw off at b }
  | no h ↦
      let p = e ∙ fits used n (omega arith) in
      let on : o.written ≡ true = ap (λ (x : Outcome). x.written) p in
      let size : o.steps ≡ n = ap (λ (x : Outcome). x.steps) p in
      let front : take (2 * n) own ≡ bytes_of s.steps = stored_front s room in
      record {
        verdict = found n;
        judged = j;
        outcome = e;
        steps = s.steps ++ [];
        schedule = written {m = m} {o = o} {ts = s.steps} on (rw size s.run.least) end;
        stored = rw (append-nil s.steps) (rw (on, front) at b);
      }
]

-- The steps that one outcome adds are those of its schedule, ..
length_one : (used : ℕ) {m : Model} {o : Outcome} {ss : List Step} → Schedules (m ∷ []) (o ∷ []) ss → used_by used o ≡ used + length ss
length_one used {o = o} (skipped e end) = sym (added_none used o e) ∙ sym (add-zero used)
length_one used {o = o} (written {ts = ts} e l end) = rw (append-nil ts, l.count) (sym (added used o e))

-- .. which stands before the others.
before_others : {m : Model} {o : Outcome} {ms : List Model} {os : List Outcome} {ss ts : List Step} → Schedules (m ∷ []) (o ∷ []) ss
    → Schedules ms os ts → Schedules (m ∷ ms) (o ∷ os) (ss ++ ts)
before_others (skipped e end) s = skipped e s
before_others (written {ts = ts} e l end) s = rw (append-nil ts) (written e l s)

-- A first model judged, and then others behind it.
pub one_by_one : {used : ℕ} {m : Model} {o : Outcome} {ms : List Model} {os : List Outcome} {x y z : List ℕ} → JudgedAlone used m o x y
    → JudgedFrom (used_by used o) ms os y z → JudgedFrom used (m ∷ ms) (o ∷ os) x z
unfolding outcomes_from
one_by_one {used} {m} {o} {ms} {os} {x} {y} {z} p q =
    record {
      verdicts = p.verdict ∷ q.verdicts;
      judged = (p.judged, q.judged);
      outcomes = rw (← p.outcome, ← q.outcomes) refl;
      steps = p.steps ++ q.steps;
      schedules = before_others p.schedule q.schedules;
      stored =
          let place : 2 * used_by used o ≡ 2 * used + length (bytes_of p.steps) =
          omega (arith, length_one used p.schedule, length_bytes p.steps) in
          q.stored ∙ rw (p.stored, place, bytes_append) (sets_append x (2 * used) (bytes_of p.steps) (bytes_of q.steps));
    }

-- A tray that is read as a model and others has an accepted front: it is that model, and the others are read behind it.
pub record FrontRead (s : List ℕ) (m : Model) (ms : List Model) (f : Front) : Type 0 where
  pub model : f.model ≡ m
  pub taken : Taken s m f.size
  pub rest : ReadAs (part_from s f.size) ms

front_read : {s : List ℕ} {m : Model} {ms : List Model} (f : Front) → ReadAs s (m ∷ ms) → accepted (Some f) ≡ first_reading_of (tray_of s)
    → AtFront f.size s f.model → FrontRead s m ms f
front_read {s} {m} {ms} f (next {rest = rest} e later) given at =
    let told : accepted (Some f) ≡ first_reading_of (first m rest) = given ∙ ap first_reading_of e in
    let model : f.model ≡ m = cc in
    let t : Taken s m f.size = rw model at (taken s f given at) in
    let left : rest ≡ part_from s f.size = ap rest_of (sym e ∙ t.given) in
    record { model = model; taken = t; rest = rw left at later }

-- It is not without one, nor refused.
some_front : {s : List ℕ} {m : Model} {ms : List Model} {P : Type 0} → ReadAs s (m ∷ ms) → accepted None ≡ first_reading_of (tray_of s) → P
some_front (next e later) given = let told = given ∙ ap first_reading_of e in let z : ◌≡◌ {A = ℕ} 0 1 = cc in absurd (omega arith)

good_front : {s : List ℕ} {m : Model} {ms : List Model} {n : ℕ} {P : Type 0} → ReadAs s (m ∷ ms) → refused n ≡ first_reading_of (tray_of s) → P
good_front (next e later) given = apart (given ∙ ap first_reading_of e)

-- The records below i are judged, up to a rest of the tray and to a place of the store.
pub record Upto (tray : List ℕ) (count : ℕ) (rest : List ℕ) (used i : ℕ) (list : List Outcome) (old new : List ℕ) : Type 0 where
  pub few : count ≤ most_records
  pub low : i ≤ count
  pub most : used ≤ most_steps
  pub places : length list ≡ most_records
  pub size : length new ≡ length old
  pub models : List Model
  pub read : ReadAs tray models
  pub many : length models ≡ count
  pub left : ReadAs rest (drop i models)
  pub so_far : (os : List Outcome) (last : List ℕ) → JudgedFrom used (drop i models) os new last
      → JudgedFrom 0 models (take i list ++ os) old last

module _ {tray rest : List ℕ} {count used i : ℕ} {list : List Outcome} {old new : List ℕ} (u : Upto tray count rest used i list old new) where
  -- While one is left, the rest has a record at its front ..
  ahead : i < count → ReadAs rest (get_or u.models i zero_model ∷ drop (i + 1) u.models)
  ahead h = let more = drop-cons u.models i zero_model (omega (arith, u.many)) in rw (more, ← add-one i) at u.left

  pub upto_some : {P : Type 0} → i < count → accepted None ≡ first_reading_of (tray_of rest) → P
  upto_some h e = some_front (ahead h) e

  pub upto_good : {n : ℕ} {P : Type 0} → i < count → refused n ≡ first_reading_of (tray_of rest) → P
  upto_good h e = good_front (ahead h) e

  pub upto_front : i < count → (f : Front) → accepted (Some f) ≡ first_reading_of (tray_of rest) → AtFront f.size rest f.model
      → FrontRead rest (get_or u.models i zero_model) (drop (i + 1) u.models) f
  upto_front h f e at = front_read f (ahead h) e at

  -- .. which is judged ..
  pub upto_next : i < count → (f : Front) → accepted (Some f) ≡ first_reading_of (tray_of rest) → AtFront f.size rest f.model
      → {o : Outcome} {store : List ℕ} → JudgedAlone used f.model o new store
      → Upto tray count (part_from rest f.size) (used_by used o) (i + 1) (set list i o) old store
  upto_next h f e at {o} {store} j =
      let r = upto_front h f e at in
      let more = drop-cons u.models i zero_model (omega (arith, u.many)) in
      record {
        few = u.few;
        low = omega arith;
        most = rw j.outcome (stays_low used j.verdict u.most);
        places = length-set list i o ∙ u.places;
        size = rw j.stored (length-sets new (2 * used) (bytes_of j.steps)) ∙ u.size;
        models = u.models;
        read = u.read;
        many = u.many;
        left = r.rest;
        so_far = λ os last q.
            let all = u.so_far (o ∷ os) last (rw (more, ← add-one i) (one_by_one (rw r.model at j) q)) in
            rw (add-one i, take-suc-set list i o (omega (arith, u.places, u.few)), append_assoc) all;
      }

  -- .. until all are.
  pub upto_all : count ≤ i → EachJudged tray count list old new
  upto_all h =
      let e : i ≡ count = omega (arith, u.low) in
      let none : drop i u.models ≡ [] = drop_of_length-le u.models {i = i} (omega (arith, u.many)) in
      record {
        places = u.places;
        models = u.models;
        read = u.read;
        many = u.many;
        judged = rw (← e, ← append-nil (take i list)) (u.so_far [] new (rw none (nobody used new)));
      }
