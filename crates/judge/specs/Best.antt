-- The fewest steps that the two threads together make along a full line to the target, out of both threads' costs.
use Rattle.std.specs.Prelude.{List, ◌≡◌, ℕ, ◌+◌, ◌%◌, ◌≤◌, ◌<◌, get_or}
use Rattle.summary.specs.Table.{cap, capped}

-- A full line, by its value v among the first `count`, that ends in the target and that both threads can follow.
pub record Open (g target count : ℕ) (a b : List ℕ) (v : ℕ) : Type 0 where
  pub low : v < count
  pub ends : v % g ≡ target
  pub first : get_or a v 0 ≤ cap
  pub second : get_or b v 0 ≤ cap

-- The fewest steps over the first `count` lines: where they are not above the cap they are those of both threads along some line, capped;
-- and no open line has fewer, both threads' steps taken on that same line.
pub record Best (g target count : ℕ) (a b : List ℕ) (steps : ℕ) : Type 0 where
  pub some : steps ≤ cap → (v : ℕ) × Open g target count a b v × (capped (get_or a v 0 + get_or b v 0) ≡ steps)
  pub least : (v : ℕ) → Open g target count a b v → (steps ≤ cap) × (steps ≤ get_or a v 0 + get_or b v 0)
