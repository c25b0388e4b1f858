-- What a call answers, the number that says it where the call is made from another language, and what that number tells.
use Rattle.std.specs.Prelude.{Bool, cond, true, false, ◌≡◌, ℕ, zero, suc, ◌+◌, ◌*◌, ◌/◌, ◌%◌, ◌≤◌, ◌<◌, eqb, Option, None, Some, Ok, Err}
use Rattle.std.specs.Prelude as std
use Rattle.model.specs.declared.Depths.{Depths}
use Rattle.model.specs.declared.refusal.Refusal.{Refusal}
use Rattle.model.specs.Refusals as refusals
use Rattle.model.specs.Results as result
use Rattle.model.specs.Results.{Result}
use Rattle.judge.specs.declared.Verdict.{Verdict}
use Rattle.judge.specs.declared.Verdict.TheVariants as verdict
use Rattle.logs.specs.declared.Followed.{Followed}
use Rattle.record.specs.declared.Front.{Front}
use Rattle.replay.specs.declared.Replayed.{Replayed}
use Rattle.ffi.specs.declared.numbers.Kind.{Kind}
use Rattle.ffi.specs.declared.numbers.Kind.TheVariants as kind

-- Everything that a call answers: a refusal's number; done; the length of a record that was written; the three verdicts, Found with
-- its steps and depths; the last shared state and the depths of a replay that stopped elsewhere, or that reached the target; the length of
-- the record taken from the front of a tray, or that there is none; the length of a page; the last shared state and the rounds of a log; how
-- many records of a tray were judged; the length of the rules that were printed.
pub data Reply : Type 0 where
  refused : ℕ → Reply
  done : Reply
  written : ℕ → Reply
  clear long : Reply
  found : ℕ → Depths → Reply
  stopped reached : ℕ → Depths → Reply
  taken : ℕ → Reply
  none : Reply
  paged : ℕ → Reply
  followed : ℕ → ℕ → Reply
  judged : ℕ → Reply
  printed : ℕ → Reply

-- A kind in the low byte, and three fields of 16 bits from bit 16 on.
abbrev pub packed : ℕ → ℕ → ℕ → ℕ → ℕ
packed kind x y z = kind + 65536 * (x + 65536 * (y + 65536 * z))

-- The number of each kind, as the C interface has it.
abbrev pub kind_number : Kind → ℕ
kind_number kind.Done = 0
kind_number kind.Written = 32
kind_number kind.Clear = 33
kind_number kind.Long = 34
kind_number kind.Found = 35
kind_number kind.Stopped = 36
kind_number kind.Reached = 37
kind_number kind.Taken = 38
kind_number kind.None = 39
kind_number kind.Paged = 40
kind_number kind.Followed = 41
kind_number kind.Judged = 42
kind_number kind.Printed = 43

-- The number of a reply: its kind, which is a refusal's own number, 0, or from 32 on, and what it carries in the first field; depths stand
-- in the second, A's, and the third, B's, the length of a page or of printed rules reaches into the second, and a log's rounds stand
-- there.
abbrev pub number_of : Reply → ℕ
number_of (refused n) = packed n 0 0 0
number_of done = packed 0 0 0 0
number_of (written n) = packed 32 n 0 0
number_of clear = packed 33 0 0 0
number_of long = packed 34 0 0 0
number_of (found n d) = packed 35 n d.a d.b
number_of (stopped q d) = packed 36 q d.a d.b
number_of (reached q d) = packed 37 q d.a d.b
number_of (taken n) = packed 38 n 0 0
number_of none = packed 39 0 0 0
number_of (paged n) = packed 40 n 0 0
number_of (followed q n) = packed 41 q n 0
number_of (judged n) = packed 42 n 0 0
number_of (printed n) = packed 43 n 0 0

-- The reply of a kind, a first field, the two others as depths, and the first two as one; a kind that no other reply has is a refusal's
-- number.
unfoldable pub reply_by : ℕ → ℕ → Depths → ℕ → Reply
reply_by kind x d both =
    cond (eqb kind 0) done
    (cond (eqb kind 32) (written x)
    (cond (eqb kind 33) clear
    (cond (eqb kind 34) long
    (cond (eqb kind 35) (found x d)
    (cond (eqb kind 36) (stopped x d)
    (cond (eqb kind 37) (reached x d)
    (cond (eqb kind 38) (taken x)
    (cond (eqb kind 39) none
    (cond (eqb kind 40) (paged both)
    (cond (eqb kind 41) (followed x d.a)
    (cond (eqb kind 42) (judged x) (cond (eqb kind 43) (printed both) (refused kind)))))))))))))

-- The reply that a number tells, by its low byte and its fields.
abbrev pub reply_of : ℕ → Reply
reply_of r =
    reply_by (r % 256) (r / 65536 % 65536) (record { a = r / 4294967296 % 65536; b = r / 281474976710656 % 65536 })
    (r / 65536 % 4294967296)

-- What stands in three fields fits in their 16 bits.
pub record FieldsFit (x : ℕ) (d : Depths) : Type 0 where
  pub first : x < 65536
  pub a : d.a < 65536
  pub b : d.b < 65536

-- A reply whose number tells it: refusals are 1 to 31, and what is carried fits in 16 bits, or the length of a text in 32.
abbrev pub ReplyFits : Reply → Type 0
ReplyFits (refused n) = (1 ≤ n) × (n ≤ 31)
ReplyFits done = Unit {0}
ReplyFits (written n) = n < 65536
ReplyFits clear = Unit {0}
ReplyFits long = Unit {0}
ReplyFits (found n d) = FieldsFit n d
ReplyFits (stopped q d) = FieldsFit q d
ReplyFits (reached q d) = FieldsFit q d
ReplyFits (taken n) = n < 65536
ReplyFits none = Unit {0}
ReplyFits (paged n) = n < 4294967296
ReplyFits (followed q n) = (q < 65536) × (n < 65536)
ReplyFits (judged n) = n < 65536
ReplyFits (printed n) = n < 4294967296

-- A number says a reply: it is that reply's number, and what it tells is that reply.
pub record Says (r : ℕ) (a : Reply) : Type 0 where
  pub number : r ≡ number_of a
  pub told : reply_of r ≡ a

-- The number that an answer of the code stands for: its own, or that of the refusal.
abbrev pub number_in : std.Result ℕ Refusal → ℕ
number_in (Ok n) = n
number_in (Err r) = refusals.number_of r

-- The reply to a call that writes a record.
abbrev pub write_reply : Result ℕ → Reply
write_reply (result.accepted n) = written n
write_reply (result.refused n) = refused n

-- The reply to a call that fills a line table, by the refusal that is due.
abbrev pub lines_reply : ℕ → Reply
lines_reply zero = done
lines_reply (suc n) = refused (suc n)

-- The reply to a call that judges.
abbrev pub judge_reply : std.Result Verdict Refusal → Reply
judge_reply (Ok verdict.Clear) = clear
judge_reply (Ok verdict.Long) = long
judge_reply (Ok (verdict.Found n depths)) = found n depths
judge_reply (Err r) = refused (refusals.number_of r)

-- The reply to a call that replays a schedule.
abbrev pub replay_reply : Result Replayed → Reply
replay_reply (result.accepted r) = cond r.reached (reached r.shared.0 r.depths) (stopped r.shared.0 r.depths)
replay_reply (result.refused n) = refused n

-- The kind of that reply where replay accepts, by whether the run ends at the target.
unfoldable pub end_kind : Bool → ℕ
end_kind true = 37
end_kind false = 36

-- The reply to a call that makes a page.
abbrev pub page_reply : Result ℕ → Reply
page_reply (result.accepted n) = paged n
page_reply (result.refused n) = refused n

-- The reply to a call that reads the first record of a tray.
abbrev pub first_reply : Result (Option Front) → Reply
first_reply (result.accepted None) = none
first_reply (result.accepted (Some f)) = taken f.size
first_reply (result.refused n) = refused n

-- The reply to a call that follows a log.
abbrev pub follow_reply : Result Followed → Reply
follow_reply (result.accepted f) = followed f.shared.0 f.rounds
follow_reply (result.refused n) = refused n

-- The reply to a call that judges the records of a tray.
abbrev pub batch_reply : std.Result ℕ Refusal → Reply
batch_reply (Ok n) = judged n
batch_reply (Err r) = refused (refusals.number_of r)

-- The reply to a call that prints the rules of the sequential system.
abbrev pub print_reply : Result ℕ → Reply
print_reply (result.accepted n) = printed n
print_reply (result.refused n) = refused n
