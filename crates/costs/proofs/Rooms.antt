-- Which tables have room for a model: the larger one always has, and the smaller one where no rule is held, since then there are only
-- the states.
use mathlib.Core.Bool.{true, ◌&&◌}
use mathlib.Core.List.{List}
use mathlib.Core.Path.{◌≡◌}
use Prim.Native.Nat.{ℕ, ◌≤◌}
use native.Mathlib.Omega.{arith}
use lib.Dec.{T}
use lib.ListN.{length}
use Rattle.model.specs.Bits.{all_zero}
use Rattle.model.specs.declared.Model.{Model}
use Rattle.model.specs.declared.Thread.{Thread}
use Rattle.model.specs.Fits.{Fits}
use Rattle.model.proofs.Tests.{passed, both}
use Rattle.summary.specs.Cells.{controls_of, size}
use Rattle.summary.proofs.Numbers.{controls_range}
use Rattle.costs.specs.Lanes.{TableFor}

-- The larger table.
pub large_room : {m : Model} {table : List ℕ} → Fits m → length table ≡ size 8 → TableFor m table
large_room {m} f e =
    let a = controls_range m.a m.g in
    let b = controls_range m.b m.g in
    record { a = omega (arith, a, f.g.1); b = omega (arith, b, f.g.1) }

-- A thread without held rules needs the smaller one.
free_size : (t : Thread) {g : ℕ} → g ≤ 4 → T (all_zero t.held) → size (controls_of t g) ≤ size 4
free_size t h z = rw (passed (all_zero t.held) z) (omega arith)

-- The smaller table.
pub small_room : {m : Model} {table : List ℕ} → Fits m → (all_zero m.a.held && all_zero m.b.held) ≡ true → length table ≡ size 4
    → TableFor m table
small_room {m} f z e =
    let free = (both (all_zero m.a.held) (all_zero m.b.held)).0 (rw z tt) in
    record { a = omega (arith, e, free_size m.a f.g.1 free.0); b = omega (arith, e, free_size m.b f.g.1 free.1) }
