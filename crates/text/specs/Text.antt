-- Text, byte by byte, in ASCII: numbers in base ten, columns, and the letters of the threads.
use Rattle.std.specs.Prelude.{cond, List, [], ◌∷◌, ◌++◌, ℕ, zero, suc, ◌+◌, ◌-◌, ◌/◌, ◌%◌, ltb, length, replicate}
use Rattle.model.specs.declared.ThreadId.{ThreadId}
use Rattle.model.specs.declared.ThreadId.TheVariants.{A, B}

-- A number in base ten without leading zeros, where it has no more digits than `places`.
unfoldable pub decimal_in : ℕ → ℕ → List ℕ
decimal_in zero n = []
decimal_in (suc places) n = cond (ltb n 10) ((48 + n) ∷ []) (decimal_in places (n / 10) ++ ((48 + n % 10) ∷ []))

-- A number in base ten without leading zeros; it has no more than n + 1 digits.
abbrev pub decimal : ℕ → List ℕ
decimal n = decimal_in (suc n) n

-- A line that ends with a number: a word in front of it, and byte 0A behind it.
unfoldable pub line : List ℕ → ℕ → List ℕ
line word n = word ++ decimal n ++ (10 ∷ [])

-- So many blanks.
abbrev pub blanks : ℕ → List ℕ
blanks n = replicate n 32

-- A text right-aligned in so many columns: blanks, and then the text.
unfoldable pub right_aligned : ℕ → List ℕ → List ℕ
right_aligned width text = blanks (width - length text) ++ text

-- A text left-aligned in so many columns: the text, and then blanks.
unfoldable pub left_aligned : ℕ → List ℕ → List ℕ
left_aligned width text = text ++ blanks (width - length text)

-- The letter of a thread.
abbrev pub letter : ThreadId → ℕ
letter A = 65
letter B = 66
