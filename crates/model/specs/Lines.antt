-- Lines of shared states, their order, and the place of each in the line table.
use Rattle.std.specs.Prelude.{◌&&◌, cond, List, [], ◌∷◌, ℕ, zero, suc, ◌+◌, ◌*◌, ◌/◌, ◌%◌, ◌^◌, ◌<◌, ◌≤◌, pred, leb, length}

-- How many lines have one to n states: g + g² + … + gⁿ.
unfoldable pub powers : ℕ → ℕ → ℕ
powers g zero = 0
powers g (suc n) = powers g n + g ^ suc n

-- How many lines of one to 2K states there are, so the bits of a line table.
abbrev pub bits : ℕ → ℕ → ℕ
bits g k = powers g (2 * k)

-- The table of line bits holds them for G from 1 to 4 and K from 1 to 3.
unfoldable pub table_bits : ℕ → ℕ → ℕ
table_bits g k = cond (leb 1 g && leb g 4 && leb 1 k && leb k 3) (bits g k) 0

-- All entries of a list are states below g.
abbrev pub States : ℕ → List ℕ → Type 0
States g [] = Unit {0}
States g (x ∷ xs) = (x < g) × States g xs

-- A line of a model with these G and K: one to 2K states below G.
pub record Line (g k : ℕ) (line : List ℕ) : Type 0 where
  pub some : 0 < length line
  pub most : length line ≤ 2 * k
  pub states : States g line

-- The last state of a line; of no states at all, the one given.
abbrev pub last_of : ℕ → List ℕ → ℕ
last_of q [] = q
last_of q (x ∷ xs) = last_of x xs

-- A line read as a number in base g, first state highest.
unfoldable pub value : ℕ → List ℕ → ℕ
value g [] = 0
value g (x ∷ xs) = x * g ^ length xs + value g xs

-- The place of a line: shorter lines stand first, and within a length the value gives the place.
abbrev pub position : ℕ → List ℕ → ℕ
position g line = powers g (pred (length line)) + value g line

-- The n states whose value is v.
unfoldable pub digits : ℕ → ℕ → ℕ → List ℕ
digits g zero v = []
digits g (suc n) v = v / g ^ n ∷ digits g n (v % g ^ n)
