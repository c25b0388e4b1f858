-- What is printed for the bytes of a record.
use Rattle.std.specs.Prelude.{Bool, List, ◌++◌, ◌↔◌, ◌≡◌, ℕ, ◌*◌, ◌≤◌, ◌<◌, T, length, drop}
use Rattle.model.specs.declared.Model.{Model}
use Rattle.model.specs.Depths.{depths_of}
use Rattle.model.specs.Lines.{Line}
use Rattle.model.specs.Results.{refused, accepted}
use Rattle.model.specs.First.{LeastSchedule}
use Rattle.model.specs.Runs.{Marked}
use Rattle.model.specs.Schedules.{Shown}
use Rattle.model.specs.Verdict.{Verdict, clear, long, found, Judged}
use Rattle.record.specs.Reader.{Read, read_of}
use Rattle.writer.specs.declared.output.Output.{Output}
use Rattle.writer.specs.Output.{Appends}
use Rattle.text.specs.Text.{line}
use Rattle.report.specs.Text.{refused_word, found_line, clear_line, long_line, step_lines, count_lines}

-- The text of Clear: `clear`, and for each length from 1 to 2K how many lines of that length are marked. The lines that are
-- counted are those of a set that has just the marked ones.
pub record Counts (m : Model) (text : List ℕ) : Type 0 where
  pub has : List ℕ → Bool
  pub marks : (line : List ℕ) → Line m.g m.k line → T (has line) ↔ Marked m line
  pub same : text ≡ clear_line ++ count_lines m.g has (2 * m.k)

-- The text of Found: the least schedule of so many steps that reaches the target, told by a line with the number of steps and its depths,
-- and a line for each step.
abbrev pub Lists : Model → ℕ → List ℕ → Type 0
Lists m n text = Shown (LeastSchedule m n) n (λ ss. text ≡ found_line n (depths_of m ss) ++ step_lines ss)

-- The text of a verdict on a model.
abbrev pub Tells : Model → Verdict → List ℕ → Type 0
Tells m clear text = Counts m text
Tells m long text = text ≡ long_line
Tells m (found n) text = Lists m n text

-- A verdict that is true of the model, and its text.
pub record Told (m : Model) (text : List ℕ) : Type 0 where
  pub verdict : Verdict
  pub judged : Judged m verdict
  pub tells : Tells m verdict text

-- The text for what reading comes to: the number of the refusal, or the verdict on the model.
abbrev pub TextFor : Read Model → List ℕ → Type 0
TextFor (refused n) text = text ≡ line refused_word n
TextFor (accepted (m, rest)) text = Told m text

-- The text for the bytes of a record.
abbrev pub Prints : List ℕ → List ℕ → Type 0
Prints bytes text = TextFor (read_of bytes) text

-- A store begins with a text of this kind, of r bytes; the bytes beyond are as they were.
pub record Begins (Kind : List ℕ → Type 0) (r : ℕ) (old new : List ℕ) : Type 0 where
  pub text : List ℕ
  pub kind : Kind text
  pub size : r ≡ length text
  pub room : r ≤ length new
  pub stored : new ≡ text ++ drop r old

-- The bytes that a store needs. No text has more: `found 4095` with two depths of four digits, and 4,095 lines of seven bytes.
abbrev pub text_room : ℕ
text_room = 28686

-- A text of this kind has been put into an output, no longer than any can be.
pub record Says (Kind : List ℕ → Type 0) (old new : Output) : Type 0 where
  pub text : List ℕ
  pub kind : Kind text
  pub put : Appends old new text
  pub most : length text ≤ text_room

-- What the call answers and leaves in the store: the text where there is room for any; else 0, and what it held.
pub data Reports (bytes : List ℕ) (r : ℕ) (old new : List ℕ) : Type 0 where
  text : text_room ≤ length old → Begins (Prints bytes) r old new → Reports bytes r old new
  short : length old < text_room → r ≡ 0 → new ≡ old → Reports bytes r old new
