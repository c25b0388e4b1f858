-- The cost of a line, from its parts read off the line's value; n turn ends make 2n + 2 states.
use mathlib.Core.Path.{◌≡◌}
use Prim.Native.Nat.{ℕ, suc, ◌+◌, ◌*◌}
use native.Mathlib.Omega.{arith}

-- Each turn end is two states, and two stand behind the last.
pub full_count : (n : ℕ) → 2 * n + 2 ≡ 2 * suc n
full_count n = omega arith
