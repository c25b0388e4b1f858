-- What the answers of the code stand for: each comes to a refusal's number, or to a value beside the bytes that are left.
use Rattle.std.specs.Prelude.{List, ◌≡◌, ℕ, ◌≤◌, length, drop, Ok, Err}
use Rattle.std.specs.Prelude as std
use Rattle.std.specs.Borrow.{Bor}
use Rattle.model.specs.declared.Model.{Model}
use Rattle.model.specs.declared.refusal.Refusal.{Refusal}
use Rattle.model.specs.Refusals.{number_of}
use Rattle.model.specs.Results.{Result, refused, accepted, and_then}
use Rattle.record.specs.declared.Front.{Front}
use Rattle.record.specs.declared.reader.Head as head
use Rattle.record.specs.declared.targets.Extra as extra
use Rattle.record.specs.declared.targets.Second as second
use Rattle.record.specs.Reader.{Read, Head}
use Rattle.writer.specs.Writer.{Extra, Second}

-- What a reader answers, as what it stands for, and the bytes that it leaves ..
abbrev pub answered_as : {A B : Type 0} → (A → B) → std.Result A Refusal → List ℕ → Read B
answered_as f (Ok a) rest = accepted (f a, rest)
answered_as f (Err r) rest = refused (number_of r)

-- .. where it stands for itself ..
abbrev pub answered : {A : Type 0} → std.Result A Refusal → List ℕ → Read A
answered r rest = answered_as (λ a. a) r rest

-- .. and where it comes with the bytes.
abbrev pub leaves : {A : Type 0} → std.Result (A × Bor (List ℕ)) Refusal → Read A
leaves (Ok x) = accepted (x.0, x.1.now)
leaves (Err r) = refused (number_of r)

-- What a second map says of a thread ..
abbrev pub extra_of : extra.Extra → Extra
extra_of x = record { top = x.top; held = x.held; symbols = x.symbols }

-- .. and of both.
abbrev pub said_of : second.Second → Second
said_of x = record { a = extra_of x.a; b = extra_of x.b }

-- The head fields.
abbrev pub fields_of : head.Head → Head
fields_of h =
    record {
      map = h.map;
      g = h.g;
      k = h.k;
      start = h.start;
      target = h.target;
      second = said_of h.second;
      a = h.a;
      b = h.b;
    }

-- A record at the front: its model, and its size.
abbrev pub front_of : std.Result Front Refusal → Result (Model × ℕ)
front_of (Ok f) = accepted (f.model, f.size)
front_of (Err r) = refused (number_of r)

-- What a value and the place after it stand for over the bytes: the value and the bytes left.
abbrev pub over : {A : Type 0} → List ℕ → Result (A × ℕ) → Read A
over s r = and_then r (λ x. accepted (x.0, drop x.1 s))

-- The place, 0 where there is none.
abbrev pub place_of : {A : Type 0} → Result (A × ℕ) → ℕ
place_of (refused n) = 0
place_of (accepted x) = x.1

-- What was found stands for what is wanted, and its place is within the bytes.
pub record Reads {A : Type 0} (s : List ℕ) (found : Result (A × ℕ)) (wanted : Read A) : Type 0 where
  pub same : over s found ≡ wanted
  pub within : place_of found ≤ length s

-- What is answered: the model that was read, or the refusal.
unfoldable pub reading_of : Read Model → Result Model
reading_of r = and_then r (λ x. accepted x.0)
