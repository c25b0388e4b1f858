-- Each record of a tray gets what its model gets alone, whatever its neighbours are: one verdict is true of a model.
use mathlib.Core.Bool.{Bool, true, false, cond}
use mathlib.Core.List.{List, [], ◌∷◌}
use mathlib.Core.Path.{◌≡◌, refl, sym}
use Prim.Native.Nat.{ℕ, zero, suc, ◌+◌, ◌<◌}
use native.Mathlib.Omega.{arith}
use lib.Dec.{leb}
use lib.ListN.{length, get_or}
use Rattle.model.specs.declared.Model.{Model}
use Rattle.model.specs.Schedules.{most_steps}
use Rattle.model.specs.Verdict.{Verdict, clear, long, found, Judged}
use Rattle.model.specs.Zero.{zero_model}
use Rattle.model.proofs.Verdicts.{one_verdict}
use Rattle.std.specs.Prelude.{Result, Ok, Err}
use Rattle.model.specs.declared.refusal.Refusal.{Refusal}
use Rattle.model.proofs.Refusals.{number_some}
use Rattle.judge.specs.declared.Verdict as judge
use Rattle.judge.specs.declared.Verdict.TheVariants as verdict
use Rattle.judge.specs.Answer.{Answers}
use Rattle.batch.specs.declared.Outcome.{Outcome}
use Rattle.batch.specs.Batch.{AllJudged, JudgedFrom}
use Rattle.batch.specs.Outcomes.{without, written_at, outcome_of, used_by, outcomes_from}

-- An outcome tells a judgement: its verdict, and the steps of Found.
abbrev pub Tells : Outcome → Result judge.Verdict Refusal → Type 0
Tells o (Ok verdict.Clear) = (o.verdict ≡ 0) × (o.steps ≡ 0)
Tells o (Ok verdict.Long) = (o.verdict ≡ 1) × (o.steps ≡ 0)
Tells o (Ok (verdict.Found n d)) = (o.verdict ≡ 2) × (o.steps ≡ n)
Tells o (Err r) = ⊥

-- Written or not, Found tells its steps.
found_tells : (used n : ℕ) (fits : Bool) → let o = cond fits (written_at used n) (without 2 n) in (o.verdict ≡ 2) × (o.steps ≡ n)
found_tells used n true = (refl, refl)
found_tells used n false = (refl, refl)

-- The outcome of a model's verdict tells what is right of the model alone.
tells : (used : ℕ) (m : Model) (v : Verdict) (j : Result judge.Verdict Refusal) → Judged m v → Answers m 0 j → Tells (outcome_of used v) j
unfolding outcome_of
tells used m v (Ok verdict.Clear) p a = rw (one_verdict m v clear p a.1) (refl, refl)
tells used m v (Ok verdict.Long) p a = rw (one_verdict m v long p a.1) (refl, refl)
tells used m v (Ok (verdict.Found n d)) p a = rw (one_verdict m v (found n) p a.1) (found_tells used n (leb (used + n) most_steps))
tells used m v (Err r) p a = absurd (number_some r (sym a))

-- So it is with each model of a list.
each_tells : (used : ℕ) (ms : List Model) (vs : List Verdict) (i : ℕ) (j : Result judge.Verdict Refusal) → AllJudged ms vs → i < length ms
    → Answers (get_or ms i zero_model) 0 j → Tells (get_or (outcomes_from used vs) i (without 0 0)) j
unfolding outcomes_from
each_tells used [] vs i j p h a = absurd (omega arith)
each_tells used (m ∷ ms) [] i j p h a = absurd p
each_tells used (m ∷ ms) (v ∷ vs) zero j p h a = tells used m v j p.0 a
each_tells used (m ∷ ms) (v ∷ vs) (suc i) j p h a = each_tells (used_by used (outcome_of used v)) ms vs i j p.1 (omega arith) a

-- Any answer that is right of a model alone (`Answers`, which the judge's contract gives) is what its outcome tells.
pub each_alone : {used : ℕ} {ms : List Model} {os : List Outcome} {old new : List ℕ} (i : ℕ) (j : Result judge.Verdict Refusal) → JudgedFrom used ms os old new
    → i < length ms → Answers (get_or ms i zero_model) 0 j → Tells (get_or os i (without 0 0)) j
each_alone {used} {ms} i j p h a = rw p.outcomes (each_tells used ms p.verdicts i j p.judged h a)
