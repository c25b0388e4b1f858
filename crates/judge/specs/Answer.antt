-- What the judge answers, and what each store then holds.
use Rattle.std.specs.Prelude.{◌&&◌, List, ◌≡◌, ℕ, leb, Result, Ok, Err}
use Rattle.model.specs.declared.Depths.{Depths}
use Rattle.model.specs.declared.Model.{Model}
use Rattle.model.specs.declared.refusal.Refusal.{Refusal}
use Rattle.model.specs.Depths.{depths_of}
use Rattle.model.specs.First.{LeastSchedule}
use Rattle.model.specs.Refusals.{number_of}
use Rattle.model.specs.Schedules.{Stored, most_bytes}
use Rattle.model.specs.Tables.{table_fits, LineTable}
use Rattle.model.specs.Valid.{store_refusal}
use Rattle.model.specs.Verdict.{clear, long, found, Judged}
use Rattle.model.specs.Walk.{Step}
use Rattle.judge.specs.declared.Verdict.{Verdict}
use Rattle.judge.specs.declared.Verdict.TheVariants.{Clear, Long, Found}

-- The refusal that a model and the lengths of the two stores get: the model's fault (3, 4, 13, 11 or 17), then 7 where the line store
-- has too few bits or the schedule store fewer than 8,190 bytes; 0 for none.
unfoldable pub refusal_of : Model → ℕ → ℕ → ℕ
refusal_of m lines schedule = store_refusal m (table_fits m lines && leb most_bytes schedule)

-- A verdict is true of all runs. The depths of Found are those of the schedule in the store, below.
abbrev pub TrueOf : Model → Verdict → Type 0
TrueOf m Clear = Judged m clear
TrueOf m Long = Judged m long
TrueOf m (Found s depths) = Judged m (found s)

-- An answer is right where n is the refusal due: that number alone, or where there is none a verdict that is true of all runs.
abbrev pub Answers : Model → ℕ → Result Verdict Refusal → Type 0
Answers m n (Ok v) = (n ≡ 0) × TrueOf m v
Answers m n (Err r) = n ≡ number_of r

-- What the line store holds after an answer: the model's line table, or what it held.
abbrev pub LeavesLines : Model → Result Verdict Refusal → List ℕ → List ℕ → Type 0
LeavesLines m (Ok v) old new = LineTable m old new
LeavesLines m (Err r) old new = new ≡ old

-- The least schedule of n steps that reaches the target, with the depths of the stacks in its run.
pub record Witness (m : Model) (n : ℕ) (depths : Depths) (ss : List Step) : Type 0 where
  pub least : LeastSchedule m n ss
  pub deep : depths ≡ depths_of m ss

-- What the schedule store holds after a verdict: for Found the least schedule of so many steps that reaches the target, just so deep, at
-- its front, with the bytes beyond as they were; or what it held.
abbrev pub Shows : Model → Verdict → List ℕ → List ℕ → Type 0
Shows m Clear old new = new ≡ old
Shows m Long old new = new ≡ old
Shows m (Found s depths) old new = Stored (Witness m s depths) s 0 old new

-- What it holds after an answer: what the verdict says, or what it held.
abbrev pub LeavesSchedule : Model → Result Verdict Refusal → List ℕ → List ℕ → Type 0
LeavesSchedule m (Ok v) old new = Shows m v old new
LeavesSchedule m (Err r) old new = new ≡ old
