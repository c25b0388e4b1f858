-- The bits of a line table as they are counted.
use Rattle.std.specs.Prelude.{Bool, List, ℕ, ◌*◌, ◌≤◌, length}
use Rattle.model.specs.Bits.{bit_at}
use Rattle.model.specs.Lines.{position}

-- The bit at a line's place stands in a line table.
unfoldable pub standing : ℕ → List ℕ → List ℕ → Bool
standing g table = λ line. bit_at table (position g line)

-- A store has a bit for each line of up to n states below g, whatever these are: g is at most 4 and n at most 6.
pub record Fills (g n : ℕ) (table : List ℕ) : Type 0 where
  pub states : g ≤ 4
  pub most : n ≤ 6
  pub bits : 5460 ≤ 8 * length table
