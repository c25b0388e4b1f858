-- What is answered is in range: at most 32 records, and the refusals are those of a record, 19, 20 and 7.
use mathlib.Core.Bool.{Bool, true, false}
use mathlib.Core.List.{List, [], ◌∷◌}
use mathlib.Core.Path.{◌≡◌, refl, ap, ◌∙◌}
use Prim.Native.Nat.{ℕ, ◌≤◌}
use native.Mathlib.Omega.{arith}
use lib.Dec.{leb}
use lib.ListN.{length}
use Rattle.model.specs.declared.Model.{Model}
use Rattle.model.specs.Results.{refuse, first_of}
use Rattle.model.specs.Schedules.{most_bytes}
use Rattle.model.specs.Verdict.{Verdict}
use Rattle.tray.proofs.Once.{refused_range}
use Rattle.std.specs.Prelude.{Result, Ok, Err}
use Rattle.model.specs.declared.refusal.Refusal.{Refusal}
use Rattle.model.specs.Refusals.{number_of}
use Rattle.batch.specs.declared.Outcome.{Outcome}
use Rattle.batch.specs.Batch.{most_records, size_refusal, Refuses, bad, sizes, AllJudged, Batched}
use Rattle.batch.proofs.Answering.{fitting}
use Rattle.batch.specs.Outcomes.{outcome_of, used_by, outcomes_from}

-- There are as many outcomes as models.
as_many : (used : ℕ) (ms : List Model) (vs : List Verdict) → AllJudged ms vs → length (outcomes_from used vs) ≡ length ms
unfolding outcomes_from
as_many used [] [] j = refl
as_many used [] (v ∷ vs) j = absurd j
as_many used (m ∷ ms) [] j = absurd j
as_many used (m ∷ ms) (v ∷ vs) j = omega (arith, as_many (used_by used (outcome_of used v)) ms vs j.1)

-- Sizes that are not refused have a store with room for every schedule, ..
pub roomy : (n places store : ℕ) → size_refusal n places store ≡ 0 → most_bytes ≤ store
roomy n places store e = (fitting n places store e).2

-- .. and others are refused by 20 at most.
low : (n places store : ℕ) → size_refusal n places store ≤ 20
unfolding size_refusal first_of
low n places store = go (leb n most_records) (leb n places) (leb most_bytes store)
  where
    go : (a b c : Bool) → first_of (refuse 19 a ∷ refuse 20 b ∷ refuse 7 c ∷ []) ≤ 20
    go false b c = omega arith
    go true false c = omega arith
    go true true false = omega arith
    go true true true = omega arith

-- What an answer says of its number.
abbrev pub InRange : Result ℕ Refusal → Type 0
InRange (Ok n) = n ≤ most_records
InRange (Err r) = (1 ≤ number_of r) × (number_of r ≤ 20)

refusal_range : {tray : List ℕ} {places store n : ℕ} → Refuses tray places store n → (1 ≤ n) × (n ≤ 20)
refusal_range (bad r) = let x = refused_range r in (omega (arith, x), omega (arith, x))
refusal_range {places = places} {store = store} (sizes {ms = ms} r e h) = (omega arith, omega (arith, e, low (length ms) places store))

pub batch_range : (tray : List ℕ) (places : ℕ) (r : Result ℕ Refusal) (os : List Outcome) (old new : List ℕ) → Batched tray places r os old new
    → InRange r
batch_range tray places (Ok n) os old new b =
    let t = b.1 in
    let same = as_many 0 t.models t.judged.verdicts t.judged.judged in
    let many = b.0 ∙ (ap length t.judged.outcomes ∙ same) in
    omega (arith, many, (fitting (length t.models) places (length old) t.sizes).0)
batch_range tray places (Err r) os old new b = refusal_range b.1
