-- The search without rules: a table is a flat list of capped counts, and an edge bounds one cell by two others.
use Rattle.std.specs.Prelude.{cond, ◌&&◌, List, [], ◌∷◌, ◌≡◌, ℕ, ◌+◌, ◌≤◌, ◌<◌, min, leb, ltb, length, get_or}
use Rattle.model.specs.Bits.{one_if}
use Rattle.summary.specs.Table.{cap, unreached, capped}

-- An edge: the cell `to` is at most w more than cells a and b together.
pub record Edge : Type 0 where
  pub w : ℕ
  pub to : ℕ
  pub a : ℕ
  pub b : ℕ

-- What a cell of a table holds.
abbrev pub cell : List ℕ → ℕ → ℕ
cell table at = get_or table at 0

-- The cells below a bound hold counts: capped numbers, or what stands for none.
pub record Counts (bound : ℕ) (table : List ℕ) : Type 0 where
  pub most : (at : ℕ) → at < bound → cell table at ≤ unreached

-- A count after an edge: what its parts offer, capped, where both are reached and that is less.
unfoldable pub best_of : ℕ → ℕ → ℕ → ℕ → ℕ
best_of w x y old = cond (leb x cap && leb y cap) (min old (capped (w + x + y))) old

-- An edge holds: where both parts are reached, the cell is, by no more steps.
pub record EdgeHolds (table : List ℕ) (e : Edge) : Type 0 where
  pub reached : cell table e.a ≤ cap → cell table e.b ≤ cap → cell table e.to ≤ cap
  pub most : cell table e.a ≤ cap → cell table e.b ≤ cap
      → cell table e.to ≤ e.w + cell table e.a + cell table e.b

-- A count that follows for a cell by edges of a set, from what the cells hold at the start.
pub data From (S : Edge → Type 0) (start : ℕ → ℕ) : ℕ → ℕ → Type 0 where
  kept : (at : ℕ) → From S start at (start at)
  by : {x y : ℕ} (e : Edge) → S e → From S start e.a x → From S start e.b y → x ≤ cap → y ≤ cap
      → From S start e.to (capped (e.w + x + y))

-- The sum of a table.
abbrev pub sum : List ℕ → ℕ
sum [] = 0
sum (x ∷ xs) = x + sum xs

-- What a relaxation by edges of W promises of the table before and after, and of its count of changes.
pub record Relaxed (W : Edge → Type 0) (old new : List ℕ) (changes : ℕ) : Type 0 where
  pub size : length new ≡ length old
  pub falls : changes + sum new ≤ sum old
  pub low : (at : ℕ) → cell new at ≤ cell old at
  pub same : changes ≡ 0 → new ≡ old
  pub derived : (at : ℕ) → From W (cell old) at (cell new at)
  pub closed : (e : Edge) → W e → cell new e.a ≡ cell old e.a → cell new e.b ≡ cell old e.b → EdgeHolds new e

-- What relaxing by edges of W until nothing changes promises of the table before and after.
pub record Closes (W : Edge → Type 0) (old new : List ℕ) : Type 0 where
  pub size : length new ≡ length old
  pub low : (at : ℕ) → cell new at ≤ cell old at
  pub derived : (at : ℕ) → From W (cell old) at (cell new at)
  pub closed : (e : Edge) → W e → EdgeHolds new e

-- 1 where a count has fallen.
abbrev pub less : ℕ → ℕ → ℕ
less new old = one_if (ltb new old)

-- No edge at all.
abbrev pub NoEdge : Edge → Type 0
NoEdge e = ⊥

-- A row of edges: cells to, to + 1, .. below to + count, each by cell a and one of a row from b on.
pub record Row (w to a b count : ℕ) (e : Edge) : Type 0 where
  pub x : ℕ
  pub inside : x < count
  pub is : e ≡ record { w = w; to = to + x; a = a; b = b + x }

-- A row of edges that a table has cells for: of weight 0 or 1, and at most 256, which are sixteen destinations of sixteen lanes.
abbrev pub RowFits : ℕ → ℕ → ℕ → ℕ → ℕ → List ℕ → Type 0
RowFits w to a b count table = (w ≤ 1) × (a < length table) × (to + count ≤ length table) × (b + count ≤ length table) × (count ≤ 256)

-- It has cells for the row, and both of the row's runs of cells hold counts.
pub record RowReady (w to a b count : ℕ) (table : List ℕ) : Type 0 where
  pub fits : RowFits w to a b count table
  pub goal : Counts (to + count) table
  pub source : Counts (b + count) table

-- The edges of a family, for each index below a count.
pub record Below (count : ℕ) (F : ℕ → Edge → Type 0) (e : Edge) : Type 0 where
  pub i : ℕ
  pub inside : i < count
  pub at : F i e
