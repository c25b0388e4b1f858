-- Rows of edges lie within the table: the cells that the search computes for a row, and the ends of the row, by the parts of the table.
use mathlib.Core.List.{List}
use mathlib.Core.Path.{◌≡◌}
use Prim.Native.Nat.{ℕ, ◌+◌, ◌-◌, ◌*◌, ◌≤◌, ◌<◌}
use native.Mathlib.Omega.{arith}
use lib.ListN.{length}
use Rattle.summary.specs.declared.shape.Shape.{Shape}
use Rattle.summary.specs.declared.transition.Push.{Push}
use Rattle.summary.specs.declared.transition.Transition.{Transition}
use Rattle.summary.specs.Cells.{Ready, plain, gone, lane, lane_of, free_of, first, part, second, size}
use Rattle.summary.specs.Edges.{Edge, Relaxed, RowFits, RowReady}
use Rattle.summary.proofs.Capped.{held, rows_in}

-- A row fits a table, and both of its rows of cells end below a bound.
abbrev pub FitsBelow : ℕ → ℕ → ℕ → ℕ → ℕ → ℕ → List ℕ → Type 0
FitsBelow bound w to a b count table = RowFits w to a b count table × ((to + count ≤ bound) × (b + count ≤ bound))

-- A row of a table that was ready and has been relaxed since is ready.
pub row_ready : {W : Edge → Type 0} {table old : List ℕ} {n bound changes w to a b count : ℕ} → Relaxed W old table changes
    → Ready n bound old → FitsBelow bound w to a b count table → RowReady w to a b count table
row_ready r ready fits =
    let counts = rows_in (held r ready.counts) fits.1 in record { fits = fits.0; goal = counts.0; source = counts.1 }

module _ {W : Edge → Type 0} {table old : List ℕ} {changes : ℕ} (relaxed : Relaxed W old table changes) where
  -- One turn end.
  pub ends_row : (sh : Shape) {o i γ d f x y : ℕ} → size sh.controls ≤ length old → o < free_of sh.controls → i < free_of sh.controls
      → γ < 17 → d < sh.dests → f ≡ first sh.controls → x ≡ lane f o γ d → y ≡ plain i γ d
      → FitsBelow (second sh.controls) 0 (x + lane_of o i) 4 y 1 table
  ends_row sh room p q r s e g h = let same = relaxed.size in omega arith

  module _ (push : Push) (room : size push.step.shape.controls ≤ length old) {q : ℕ} (low : q < push.step.shape.controls) where
    -- A push with a turn end in each part.
    pub cross_row : {l f s d x y z : ℕ} → l < 16 → f ≡ first push.step.shape.controls → s ≡ second push.step.shape.controls → d ≡ gone q
        → x ≡ lane s push.step.from push.step.symbol 0 → y ≡ lane f push.step.to push.a.0 d → z ≡ lane f q push.b.0 0
        → FitsBelow (size push.step.shape.controls) 1 x (y + l) z (push.step.shape.dests * 16) table
    cross_row h e g k i j m = let same = relaxed.size in omega arith

    -- A push within one turn.
    pub plain_row : {d x y z : ℕ} → d ≡ gone q
        → x ≡ plain push.step.from push.step.symbol 0 → y ≡ plain push.step.to push.a.0 d → z ≡ plain q push.b.0 0
        → FitsBelow (first push.step.shape.controls) 1 x y z push.step.shape.dests table
    plain_row e i j m = let same = relaxed.size in omega arith

    -- A push with turn ends in its first part.
    pub pops_row : {base d c x y z : ℕ} → base ≤ second push.step.shape.controls → d < push.step.shape.dests → c ≡ gone q
        → x ≡ lane base push.step.from push.step.symbol d → y ≡ plain q push.b.0 d → z ≡ lane base push.step.to push.a.0 c
        → FitsBelow (base + part push.step.shape.controls) 1 x y z 16 table
    pops_row h k e i j m = let same = relaxed.size in omega arith

    -- A push with turn ends in its second part.
    pub late_row : {base c x y z : ℕ} → base ≤ second push.step.shape.controls → c ≡ gone q
        → x ≡ lane base push.step.from push.step.symbol 0 → y ≡ plain push.step.to push.a.0 c → z ≡ lane base q push.b.0 0
        → FitsBelow (base + part push.step.shape.controls) 1 x y z (push.step.shape.dests * 16) table
    late_row h e i j m = let same = relaxed.size in omega arith

  module _ (step : Transition) (room : size step.shape.controls ≤ length old) {base a x z : ℕ} (below : base ≤ second step.shape.controls)
      (symbol : a ≤ 15) where
    -- A push whose first symbol stays.
    pub above_row : x ≡ lane base step.from step.symbol 4 → z ≡ lane base step.to a 4
        → FitsBelow (base + part step.shape.controls) 1 x 4 z ((step.shape.stays - 4) * 16) table
    above_row e i = let same = relaxed.size in omega arith

    -- A swap.
    pub swap_row : x ≡ lane base step.from step.symbol 0 → z ≡ lane base step.to a 0
        → FitsBelow (base + part step.shape.controls) 1 x 4 z (step.shape.dests * 16) table
    swap_row e i = let same = relaxed.size in omega arith
