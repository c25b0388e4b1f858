-- What each call answers for the bytes of a record or of a tray, and what each lent store then holds.
use Rattle.std.specs.Prelude.{List, ◌≡◌, ℕ, zero, suc, length, Option, None, Some}
use Rattle.std.specs.Prelude as std
use Rattle.model.specs.declared.Model.{Model}
use Rattle.model.specs.declared.refusal.Refusal.{Refusal}
use Rattle.model.specs.Results as result
use Rattle.model.specs.Results.{Result}
use Rattle.model.specs.Tables.{LineTable}
use Rattle.batch.specs.Bytes.{ListedBytes}
use Rattle.merge.specs.Answer.{merging_of, Makes}
use Rattle.record.specs.declared.Front.{Front}
use Rattle.record.specs.Reader.{Read, read_of}
use Rattle.record.specs.Written.{written_of, store_of}
use Rattle.reach.specs.Answer.{outcome_of}
use Rattle.replay.specs.Replay.{replay_of}
use Rattle.logs.specs.Log.{followed_of}
use Rattle.page.specs.Answer.{paged_of, page_store}
use Rattle.judge.specs.declared.Verdict.{Verdict}
use Rattle.judge.specs.Answer.{refusal_of, Answers, LeavesLines, LeavesSchedule}
use Rattle.tray.specs.Answer.{first_reading_of, AtFront}
use Rattle.tray.specs.Tray.{tray_of}
use Rattle.sequential.specs.Answer.{printed_of, print_store}
use Rattle.ffi.specs.Replies.{refused, done, Says, write_reply, lines_reply, judge_reply, replay_reply, page_reply, follow_reply, first_reply}
use Rattle.ffi.specs.Replies.{batch_reply, print_reply}

-- What holds by what reading comes to: one thing of a refusal's number, or another of the model.
abbrev pub Either : (ℕ → Type 0) → (Model → Type 0) → Read Model → Type 0
Either Refusal Call (result.refused n) = Refusal n
Either Refusal Call (result.accepted (m, rest)) = Call m

-- Reading: done for a whole record, else the refusal.
abbrev pub ReadCall : List ℕ → ℕ → Type 0
ReadCall bytes r = Either (λ n. Says r (refused n)) (λ m. Says r done) (read_of bytes)

-- Writing the model that was read: the writer's answer, with the store as the writer leaves it.
abbrev pub WriteCall : List ℕ → ℕ → List ℕ → List ℕ → Type 0
WriteCall bytes r old new =
    Either (λ n. Says r (refused n) × (new ≡ old))
    (λ m. Says r (write_reply (written_of m (length old))) × (new ≡ store_of m old)) (read_of bytes)

-- Writing the model that two were made, by what merging answers: the writer's answer, with the store as the writer leaves it.
abbrev pub WrittenBy : Result Model → ℕ → List ℕ → List ℕ → Type 0
WrittenBy (result.accepted whole) r old new = Says r (write_reply (written_of whole (length old))) × (new ≡ store_of whole old)
WrittenBy (result.refused n) r old new = Says r (refused n) × (new ≡ old)

-- Merging two models and writing what they are made: it is made of both.
abbrev pub MergedCall : Model → Model → ℕ → List ℕ → List ℕ → Type 0
MergedCall m n r old new = WrittenBy (merging_of m n) r old new × Makes m n (merging_of m n)

-- The same with the model that was read as the second ..
abbrev pub SecondCall : Model → List ℕ → ℕ → List ℕ → List ℕ → Type 0
SecondCall m second r old new =
    Either (λ n. Says r (refused n) × (new ≡ old)) (λ n. MergedCall m n r old new) (read_of second)

-- .. and with another that was read before it as the first.
abbrev pub MergeCall : List ℕ → List ℕ → ℕ → List ℕ → List ℕ → Type 0
MergeCall first second r old new =
    Either (λ n. Says r (refused n) × (new ≡ old)) (λ m. SecondCall m second r old new) (read_of first)

-- What a store holds after the call for the line table, by the refusal that is due: the table, or what it held.
abbrev pub LeftBy : ℕ → Model → List ℕ → List ℕ → Type 0
LeftBy zero m old new = LineTable m old new
LeftBy (suc n) m old new = new ≡ old

-- The line table of the model that was read: what that call answers, with the store as it leaves it.
abbrev pub LinesCall : List ℕ → ℕ → List ℕ → List ℕ → Type 0
LinesCall bytes r old new =
    Either (λ n. Says r (refused n) × (new ≡ old))
    (λ m. Says r (lines_reply (outcome_of m (length old))) × LeftBy (outcome_of m (length old)) m old new) (read_of bytes)

-- A right judgement on a model, with both stores as it leaves them, and the number that says it.
pub record Answered (m : Model) (r : ℕ) (lines lines_after schedule schedule_after : List ℕ) : Type 0 where
  pub judgement : std.Result Verdict Refusal
  pub says : Says r (judge_reply judgement)
  pub right : Answers m (refusal_of m (length lines) (length schedule)) judgement
  pub table : LeavesLines m judgement lines lines_after
  pub witness : LeavesSchedule m judgement schedule schedule_after

-- Judging the model that was read.
abbrev pub JudgeCall : List ℕ → ℕ → List ℕ → List ℕ → List ℕ → List ℕ → Type 0
JudgeCall bytes r lines lines_after schedule schedule_after =
    Either (λ n. Says r (refused n) × (lines_after ≡ lines) × (schedule_after ≡ schedule))
    (λ m. Answered m r lines lines_after schedule schedule_after) (read_of bytes)

-- Replaying a schedule of the model that was read: what replay answers.
abbrev pub ReplayCall : List ℕ → List ℕ → ℕ → Type 0
ReplayCall bytes schedule r = Either (λ n. Says r (refused n)) (λ m. Says r (replay_reply (replay_of m schedule))) (read_of bytes)

-- The page of a schedule of the model that was read: what that call answers, with the store as it leaves it.
abbrev pub PageCall : List ℕ → List ℕ → ℕ → List ℕ → List ℕ → Type 0
PageCall bytes schedule r old new =
    Either (λ n. Says r (refused n) × (new ≡ old))
    (λ m. Says r (page_reply (paged_of m schedule (length old))) × (new ≡ page_store m schedule old)) (read_of bytes)

-- The rules of the sequential system of the model that was read: what that call answers, with the store as it leaves it.
abbrev pub SequentializeCall : List ℕ → ℕ → List ℕ → List ℕ → Type 0
SequentializeCall bytes r old new =
    Either (λ n. Says r (refused n) × (new ≡ old))
    (λ m. Says r (print_reply (printed_of m (length old))) × (new ≡ print_store m old)) (read_of bytes)

-- Following a log of the model that was read: what that call answers.
abbrev pub FollowCall : List ℕ → List ℕ → ℕ → Type 0
FollowCall bytes log r = Either (λ n. Says r (refused n)) (λ m. Says r (follow_reply (followed_of m log))) (read_of bytes)

-- Where a record is taken from a tray, it stands at its front with as many bytes as are said.
abbrev pub Taken : Result (Option Front) → List ℕ → Type 0
Taken (result.accepted None) tray = Unit {0}
Taken (result.accepted (Some f)) tray = AtFront f.size tray f.model
Taken (result.refused n) tray = Unit {0}

-- Reading the first record of a tray: what that call answers, and of a record that is taken.
abbrev pub FirstCall : List ℕ → ℕ → Type 0
FirstCall tray r = Says r (first_reply (first_reading_of (tray_of tray))) × Taken (first_reading_of (tray_of tray)) tray

-- Judging the records of a tray: what that call answers, with the list and the store as it leaves them.
pub record BatchCall (tray : List ℕ) (r : ℕ) (list list_after store store_after : List ℕ) : Type 0 where
  pub answer : std.Result ℕ Refusal
  pub says : Says r (batch_reply answer)
  pub listed : ListedBytes tray answer list list_after store store_after
