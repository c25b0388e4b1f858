-- What is claimed of a record: its refusal, or a verdict on its model over runs of any length, with a shortest schedule and
-- the line table where they are given, or a schedule that replay refuses, or where a log leads.
use Rattle.std.specs.Prelude.{true, List, [], ◌≡◌, ℕ, length, replicate}
use Rattle.model.specs.declared.Depths.{Depths}
use Rattle.model.specs.declared.Model.{Model}
use Rattle.model.specs.Results.{refused, accepted}
use Rattle.model.specs.Runs.{Reaches}
use Rattle.model.specs.Schedules.{bytes_of, Shown}
use Rattle.model.specs.Tables.{bytes_for, LineTable}
use Rattle.model.specs.Valid.{Valid}
use Rattle.model.specs.Verdict.{clear, found, Judged}
use Rattle.logs.specs.Log.{followed_of}
use Rattle.logs.specs.Placings.{Fewest}
use Rattle.record.specs.Reader.{read_of}
use Rattle.replay.specs.Replay.{replay_of}

-- The bytes of a line table, if they are given.
pub data Table : Type 0 where
  ungiven : Table
  given : List ℕ → Table

-- What must come of a record: a refusal by its number, Clear, Found with its steps, the depths of A and B and the bytes of a schedule, or
-- for the bytes of a schedule the number by which replay refuses them; or for a log the last shared state and the rounds, or the number by
-- which it is refused.
pub data Answer : Type 0 where
  Refused : ℕ → Answer
  Clear : Table → Answer
  Found : ℕ → ℕ → ℕ → List ℕ → Table → Answer
  Declined : List ℕ → ℕ → Answer
  Logged : List ℕ → ℕ → ℕ → Answer
  Unlogged : List ℕ → ℕ → Answer

-- A record, byte by byte, and what must come of it.
pub record Case : Type 0 where
  pub bytes : List ℕ
  pub answer : Answer

-- A record is accepted, and something holds of its model.
pub record Accepts (bytes : List ℕ) (Fact : Model → Type 0) : Type 0 where
  pub model : Model
  pub read : read_of bytes ≡ accepted (model, [])
  pub valid : Valid model
  pub holds : Fact model

-- Bytes are a schedule of n steps that reaches the target, and replay says so, with these depths.
abbrev pub Scheduled : Model → ℕ → Depths → List ℕ → Type 0
Scheduled m n depths bytes =
    Shown (Reaches m) n (λ ss. bytes ≡ bytes_of ss) × (replay_of m bytes ≡ accepted (record { shared = m.target; reached = true; depths = depths }))

-- Where bytes are given, they are just as many as the line table of a model has, and a store of zeros comes to hold them.
abbrev pub Lined : Model → Table → Type 0
Lined m ungiven = Unit {0}
Lined m (given store) = (length store ≡ bytes_for m.g m.k) × LineTable m (replicate (length store) 0) store

-- What an answer claims of a record.
abbrev pub ClaimsOf : List ℕ → Answer → Type 0
ClaimsOf bytes (Refused n) = read_of bytes ≡ refused n
ClaimsOf bytes (Clear t) = Accepts bytes (λ m. Judged m clear × Lined m t)
ClaimsOf bytes (Found n a b schedule t) =
    Accepts bytes (λ m. Judged m (found n) × Scheduled m n (record { a = a; b = b }) schedule × Lined m t)
ClaimsOf bytes (Declined schedule n) = Accepts bytes (λ m. replay_of m schedule ≡ refused n)
ClaimsOf bytes (Logged log q n) =
    Accepts bytes (λ m. Fewest m log q n × (followed_of m log ≡ accepted (record { shared = record { 0 = q }; rounds = n })))
ClaimsOf bytes (Unlogged log n) = Accepts bytes (λ m. followed_of m log ≡ refused n)

-- The claims of a case.
abbrev pub Claims : Case → Type 0
Claims c = ClaimsOf c.bytes c.answer
