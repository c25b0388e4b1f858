-- Bits of a number, and of a list of bytes.
use Rattle.std.specs.Prelude.{Bool, true, cond, ◌&&◌, List, [], ◌∷◌, ℕ, ◌/◌, ◌%◌, ◌^◌, ◌<◌, eqb, get_or}

-- Bit i of a number stands, the lowest being bit 0.
abbrev pub bit : ℕ → ℕ → Bool
bit i n = eqb (n / 2 ^ i % 2) 1

-- 1 where a test holds, and else 0.
abbrev pub one_if : Bool → ℕ
one_if test = cond test 1 0

-- Bit p of a list of bytes stands: in byte p div 8, lowest bit first.
abbrev pub bit_at : List ℕ → ℕ → Bool
bit_at bytes p = bit (p % 8) (get_or bytes (p / 8) 0)

-- Every byte of a list is 0, so none of its bits stands.
unfoldable pub all_zero : List ℕ → Bool
all_zero [] = true
all_zero (b ∷ bs) = eqb b 0 && all_zero bs

-- All numbers of a list are bytes, as those of every slice and array of bytes are.
abbrev pub Bytes : List ℕ → Type 0
Bytes [] = Unit {0}
Bytes (b ∷ bs) = (b < 256) × Bytes bs
