-- What the reader's answer says of the bytes: reading gave a valid model, or that refusal.
use mathlib.Core.List.{List}
use mathlib.Core.Path.{◌≡◌, refl, sym}
use Prim.Native.Nat.{ℕ, zero, suc}
use lib.ListN.{length}
use Rattle.std.specs.Prelude.{Ok, Err}
use Rattle.std.specs.Prelude as std
use Rattle.std.specs.Result.{result_and}
use Rattle.model.specs.declared.Model.{Model}
use Rattle.model.specs.declared.refusal.Refusal.{Refusal}
use Rattle.model.specs.Refusals.{number_of, due, told}
use Rattle.model.specs.Results.{refused, accepted}
use Rattle.model.specs.Valid.{Valid}
use Rattle.model.proofs.Results.{apart, accepted_same}
use Rattle.model.proofs.Refusals.{number_some}
use Rattle.judge.specs.declared.Verdict.{Verdict}
use Rattle.judge.specs.Answer.{refusal_of, Answers, LeavesLines, LeavesSchedule}
use Rattle.reach.specs.Answer.{outcome_of, Leaves}
use Rattle.record.specs.Held.{reading_of}
use Rattle.record.specs.Kept.{Keeps}
use Rattle.record.specs.Reader.{Read, read_of}
use Rattle.ffi.specs.Calls.{ReadCall, LeftBy, Answered}
use Rattle.ffi.specs.Replies as reply
use Rattle.ffi.specs.Replies.{Says, number_in, lines_reply, judge_reply}
use Rattle.ffi.proofs.Replies.{says_done, says_refused}

-- Reading gave this model, with some bytes left, and it is valid.
pub record WasRead (bytes : List ℕ) (m : Model) : Type 0 where
  pub rest : List ℕ
  pub read : read_of bytes ≡ accepted (m, rest)
  pub valid : Valid m

-- Where the reader accepts, reading gave its model ..
pub was_read : (bytes : List ℕ) {m : Model} → accepted m ≡ reading_of (read_of bytes) → Keeps (Ok m) bytes → WasRead bytes m
unfolding reading_of
was_read bytes {m} told kept = go (read_of bytes) refl told
  where
    go : (x : Read Model) → read_of bytes ≡ x → accepted m ≡ reading_of x → WasRead bytes m
    go (refused n) same e = apart (sym e)
    go (accepted (k, rest)) same e = let model : k ≡ m = sym (accepted_same e) in record { rest = rest; read = rw model at same; valid = kept.valid }

-- .. and where it refuses, that refusal.
pub was_refused : (bytes : List ℕ) {n : ℕ} → refused n ≡ reading_of (read_of bytes) → read_of bytes ≡ refused n
unfolding reading_of
was_refused bytes {n} told = go (read_of bytes) refl told
  where
    go : (x : Read Model) → read_of bytes ≡ x → refused n ≡ reading_of x → read_of bytes ≡ refused n
    go (refused k) same e = cc
    go (accepted (k, rest)) same e = apart e

-- So reading is answered, ..
pub read_answered : (bytes : List ℕ) (r : std.Result Model Refusal) → told r ≡ reading_of (read_of bytes) → Keeps r bytes
    → ReadCall bytes (number_in (result_and r (Ok 0)))
read_answered bytes (Ok m) e k = rw (was_read bytes e k).read says_done
read_answered bytes (Err r) e k = rw (was_refused bytes e) (says_refused r)

-- .. and so is the line table, ..
pub lines_answered : (m : Model) (old new : List ℕ) (r : std.Result (Unit {0}) Refusal) → due r ≡ outcome_of m (length old) → Leaves m r old new
    → Says (number_in (result_and r (Ok 0))) (lines_reply (outcome_of m (length old))) × LeftBy (outcome_of m (length old)) m old new
lines_answered m old new (Ok x) e l = rw (← e) (says_done, l)
lines_answered m old new (Err r) e l = rw (← e) (go (number_of r) (number_some r) (says_refused r))
  where
    go : (k : ℕ) → (k ≡ 0 → ⊥) → Says k (reply.refused k) → Says k (lines_reply k) × LeftBy k m old new
    go zero z s = absurd (z refl)
    go (suc k) z s = (s, l)

-- .. and a judgement.
pub answered : {m : Model} {r : ℕ} {lines lines_after schedule schedule_after : List ℕ} (j : std.Result Verdict Refusal) → Says r (judge_reply j)
    → Answers m (refusal_of m (length lines) (length schedule)) j → LeavesLines m j lines lines_after
    → LeavesSchedule m j schedule schedule_after → Answered m r lines lines_after schedule schedule_after
answered j s a t w = record { judgement = j; says = s; right = a; table = t; witness = w }
