-- The text that is printed, byte by byte, in ASCII.
use Rattle.std.specs.Prelude.{Bool, List, [], ◌∷◌, ◌++◌, ℕ, zero, suc, ◌+◌, ◌^◌}
use Rattle.model.specs.declared.Depths.{Depths}
use Rattle.model.specs.Bits.{one_if}
use Rattle.model.specs.Lines.{digits}
use Rattle.model.specs.Walk.{owner_of, Step}
use Rattle.text.specs.Text.{decimal, line, letter}

-- `refused` and a space.
abbrev pub refused_word : List ℕ
refused_word = 114 ∷ 101 ∷ 102 ∷ 117 ∷ 115 ∷ 101 ∷ 100 ∷ 32 ∷ []

-- `found` and a space.
abbrev pub found_word : List ℕ
found_word = 102 ∷ 111 ∷ 117 ∷ 110 ∷ 100 ∷ 32 ∷ []

-- A line of two numbers, with a space between them.
unfoldable pub pair_line : ℕ → ℕ → List ℕ
pair_line x y = decimal x ++ line (32 ∷ []) y

-- The line of Found: the number of steps, the depth of A's stack and that of B's, with a space between them.
unfoldable pub found_line : ℕ → Depths → List ℕ
found_line n d = found_word ++ decimal n ++ (32 ∷ []) ++ pair_line d.a d.b

-- The line `clear`.
abbrev pub clear_line : List ℕ
clear_line = 99 ∷ 108 ∷ 101 ∷ 97 ∷ 114 ∷ 10 ∷ []

-- The line `long`.
abbrev pub long_line : List ℕ
long_line = 108 ∷ 111 ∷ 110 ∷ 103 ∷ 10 ∷ []

-- The line of a step: its turn, the letter of that turn's thread and the rule's number, with a space between them.
unfoldable pub step_line : Step → List ℕ
step_line s = decimal s.turn ++ line (32 ∷ letter (owner_of s.turn) ∷ 32 ∷ []) s.rule

-- The lines of the steps of a schedule.
unfoldable pub step_lines : List Step → List ℕ
step_lines [] = []
step_lines (s ∷ ss) = step_line s ++ step_lines ss

-- How many of the numbers below n are in a set.
unfoldable pub count_of : (ℕ → Bool) → ℕ → ℕ
count_of has zero = 0
count_of has (suc n) = count_of has n + one_if (has n)

-- For each length from 1 to n, a line with the length and how many of its lines are in a set. A length of n has gⁿ lines, one for each
-- value below gⁿ.
unfoldable pub count_lines : ℕ → (List ℕ → Bool) → ℕ → List ℕ
count_lines g has zero = []
count_lines g has (suc n) = count_lines g has n ++ pair_line (suc n) (count_of (λ v. has (digits g (suc n) v)) (g ^ suc n))
