-- What reading the input leaves in the buffer, and what it takes of the input.
use Rattle.std.specs.Prelude.{◌≡◌, ℕ, ◌<◌, ◌≤◌, List, Option, Result, IfOk, length, take}
use Rattle.std.specs.Io.KnownBytes.{Consumes, IsAtEnd}

-- What was read is counted within the buffer.
abbrev pub Within : {E : Type 0} → Result ℕ E → List ℕ → Type 0
Within r buffer = IfOk r (λ n. (n ≤ length buffer) × (n ≡ length (take n buffer)))

-- All of it: the bytes at the front of the buffer are the first of the input, and where they do not fill it the input is at its end.
abbrev pub Whole : {E : Type 0} → Option (List ℕ) → Option (List ℕ) → Result ℕ E → List ℕ → Type 0
Whole old new r buffer = IfOk r (λ n. Consumes old new (take n buffer) × (n < length buffer → IsAtEnd new))
