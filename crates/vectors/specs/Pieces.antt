-- What a reader of cases takes from the bytes that are left.
use Rattle.std.specs.Prelude.{List, [], ℕ, ◌+◌, ◌*◌, cond, nat_lt, length, slice_index, take}

-- The first n, or none where there are fewer.
abbrev pub whole : ℕ → List ℕ → List ℕ
whole n xs = cond (nat_lt (length xs) n) [] (take n xs)

-- The number in the first two bytes, the low one first.
abbrev pub two_bytes : List ℕ → ℕ
two_bytes xs = slice_index xs 0 + 256 * slice_index xs 1
