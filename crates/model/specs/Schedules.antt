-- Schedules written out: as bytes, in a store, or as the lines of a text.
use Rattle.std.specs.Prelude.{List, [], ◌∷◌, ◌≡◌, ℕ, ◌+◌, ◌*◌, length, get_or, drop}
use Rattle.std.proofs.lemmas.List.Edits.{sets}
use Rattle.model.specs.Walk.{Step}

-- The most steps that a schedule may have.
abbrev pub most_steps : ℕ
most_steps = 4095

-- The bytes of such a schedule.
abbrev pub most_bytes : ℕ
most_bytes = 8190

-- A schedule as bytes: two for each step, the turn number and then the rule's number.
abbrev pub bytes_of : List Step → List ℕ
bytes_of [] = []
bytes_of (s ∷ ss) = s.turn ∷ s.rule ∷ bytes_of ss

-- The steps that bytes hold; a last byte alone holds none.
unfoldable pub steps_of : List ℕ → List Step
steps_of [] = []
steps_of (turn ∷ []) = []
steps_of (turn ∷ rule ∷ rest) = record { turn = turn; rule = rule } ∷ steps_of rest

-- The step that bytes hold at place i.
abbrev pub step_at : List ℕ → ℕ → Step
step_at bytes i = record { turn = get_or bytes (2 * i) 0; rule = get_or bytes (2 * i + 1) 0 }

-- The steps that they hold from place i on.
abbrev pub steps_from : List ℕ → ℕ → List Step
steps_from bytes i = steps_of (drop (2 * i) bytes)

-- Some run of a kind has n steps, and they are shown in a given way.
pub record Shown (Run : List Step → Type 0) (n : ℕ) (Way : List Step → Type 0) : Type 0 where
  pub steps : List Step
  pub run : Run steps
  pub count : length steps ≡ n
  pub shown : Way steps

-- Their bytes stand in a store from a place on; all else is as it was.
abbrev pub Stored : (List Step → Type 0) → ℕ → ℕ → List ℕ → List ℕ → Type 0
Stored Run n at old new = Shown Run n (λ ss. new ≡ sets old at (bytes_of ss))
