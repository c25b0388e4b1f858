-- Where the schedules of a tray go: its verdicts in order, and one store of 4,095 steps for all.
use Rattle.std.specs.Prelude.{true, false, cond, List, [], ◌∷◌, ℕ, zero, suc, ◌+◌, leb}
use Rattle.model.specs.Schedules.{most_steps}
use Rattle.model.specs.Verdict.{Verdict, clear, long, found}
use Rattle.batch.specs.declared.Outcome.{Outcome}

-- The outcome of a record whose schedule is not written: its verdict's number, 0 for Clear, 1 for Long and 2 for Found, and its steps.
abbrev pub without : ℕ → ℕ → Outcome
without verdict steps = record { verdict = verdict; steps = steps; written = false; place = 0 }

-- The place of a schedule of n steps that is written behind so many: one of no steps has place 0.
abbrev pub place_of : ℕ → ℕ → ℕ
place_of used zero = 0
place_of used (suc n) = used

-- The outcome of Found where a schedule of n steps is written behind so many.
abbrev pub written_at : ℕ → ℕ → Outcome
written_at used n = record { verdict = 2; steps = n; written = true; place = place_of used n }

-- The outcome of a verdict where so many steps are written before it. The schedule of Found is written exactly if its steps fit in what is
-- left of the 4,095.
unfoldable pub outcome_of : ℕ → Verdict → Outcome
outcome_of used clear = without 0 0
outcome_of used long = without 1 0
outcome_of used (found n) = cond (leb (used + n) most_steps) (written_at used n) (without 2 n)

-- How many steps are written, where so many were before an outcome.
unfoldable pub used_by : ℕ → Outcome → ℕ
used_by used o = used + cond o.written o.steps 0

-- The outcomes of verdicts in their order, from a place on: each schedule stands right after the last one written.
unfoldable pub outcomes_from : ℕ → List Verdict → List Outcome
outcomes_from used [] = []
outcomes_from used (v ∷ vs) = outcome_of used v ∷ outcomes_from (used_by used (outcome_of used v)) vs
