-- The page of a schedule, byte by byte: a line of 72 characters for each step and a foot line, each with byte 0A behind it. In ASCII
-- 32 is a blank, 43 is `+`, 48 on are the digits, and 97 on, ten more than 87, the letters from `a`.
use Rattle.std.specs.Prelude.{Bool, false, cond, ◌||◌, List, [], ◌∷◌, ◌++◌, map, ℕ, zero, suc, ◌+◌, ◌/◌, ◌%◌, ltb, eqb, length, take}
use Rattle.model.specs.declared.Model.{Model}
use Rattle.model.specs.Results.{refused, accepted}
use Rattle.model.specs.Walk.{owner_of, Stacks, Config, Step, Walked, start_of, step_from}
use Rattle.text.specs.Text.{decimal, blanks, right_aligned, left_aligned, letter}

-- A number right-aligned in so many columns, and a blank column.
unfoldable pub column : ℕ → ℕ → List ℕ
column width n = right_aligned width (decimal n) ++ (32 ∷ [])

-- The last digit of a number in base 16, in lower case; a symbol has no other.
unfoldable pub hex_digit : ℕ → ℕ
hex_digit n = cond (ltb (n % 16) 10) (48 + n % 16) (87 + n % 16)

-- The 28 columns of a stack: its topmost symbols, one digit each, top first.
unfoldable pub stack_columns : List ℕ → List ℕ
stack_columns w = left_aligned 28 (map hex_digit (take 28 w))

-- Column 72, by the depths of both stacks: `+` if either was cut.
unfoldable pub mark : ℕ → ℕ → ℕ
mark a b = cond (ltb 28 a || ltb 28 b) 43 32

-- Columns 1 to 14 of a step: its number, turn, thread and rule, and the shared state after it.
unfoldable pub step_head : ℕ → Step → ℕ → List ℕ
step_head n s shared =
    column 4 n ++ column 1 s.turn ++ (letter (owner_of s.turn) ∷ 32 ∷ []) ++ column 2 s.rule ++ column 1 shared

-- The rest of its line: both stacks after it, the mark and the line's end.
unfoldable pub step_stacks : Stacks → List ℕ
step_stacks σ =
    stack_columns σ.a ++ (32 ∷ []) ++ stack_columns σ.b ++ (mark (length σ.a) (length σ.b) ∷ 10 ∷ [])

-- The line of a step: its number and the configuration after it.
unfoldable pub page_line : ℕ → Step → Config → List ℕ
page_line n s c = step_head n s c.shared ++ step_stacks c.stacks

-- What is printed from a step on: nothing, where it is refused.
abbrev pub printed : Walked → (Config → List ℕ) → List ℕ
printed (refused n) next = []
printed (accepted c) next = next c

-- The lines of steps that are walked from a configuration, numbered from n on.
unfoldable pub page_lines : Model → ℕ → Config → List Step → List ℕ
page_lines m n c [] = []
page_lines m n c (s ∷ ss) = printed (step_from m c s) (λ d. page_line n s d ++ page_lines m (suc n) d ss)

-- Some step is made in a turn.
unfoldable pub step_in : ℕ → List Step → Bool
step_in turn [] = false
step_in turn (s ∷ ss) = eqb s.turn turn || step_in turn ss

-- How many turns have a step: each counts at the last of its steps.
unfoldable pub turns_in : List Step → ℕ
turns_in [] = 0
turns_in (s ∷ ss) = cond (step_in s.turn ss) 0 1 + turns_in ss

-- Columns 8 to 14 of the foot: steps divided by turns, whole part and remainder; blank with no step.
unfoldable pub average : ℕ → ℕ → List ℕ
average zero turns = blanks 7
average (suc n) turns = column 4 (suc n / turns) ++ column 1 (suc n % turns)

-- The foot line: the steps, the turns that have one, the steps divided by those turns.
unfoldable pub foot_line : ℕ → ℕ → List ℕ
foot_line steps turns = column 4 steps ++ column 1 turns ++ average steps turns ++ blanks 58 ++ (10 ∷ [])

-- The page of a schedule.
unfoldable pub page_of : Model → List Step → List ℕ
page_of m ss = page_lines m 1 (start_of m) ss ++ foot_line (length ss) (turns_in ss)
