-- Where edges lie: each set of edges leads to cells of one part of the table, from cells below a bound.
use mathlib.Core.Logic.{◌⊎◌, inl, inr}
use mathlib.Core.Path.{sym, subst}
use Prim.Native.Nat.{ℕ, ◌+◌, ◌*◌, ◌≤◌, ◌<◌}
use native.Mathlib.Omega.{arith}
use Rattle.model.specs.declared.Right.{Right}
use Rattle.model.specs.declared.Right.TheVariants.{Remove, Swap, Push}
use Rattle.model.specs.declared.Thread.{Thread}
use Rattle.model.specs.Tops.{Top}
use Rattle.std.specs.Prelude.{None, Some}
use Rattle.model.specs.Fits.{RightFits, TopFits}
use Rattle.summary.specs.Sizes.{Sizes, shape_of, ShapeFits}
use Rattle.summary.specs.Edges.{Edge, Row, Below}
use Rattle.summary.specs.Cells.{plain, gone, lane, first, part, second, size, TopEdges, plain_by, lane_by, cross_by}
use Rattle.summary.specs.Cells.{FirstEnds, SecondEnds, Rules, Plain, First}
use Rattle.summary.specs.Kinds.{RulesIn}

-- An edge leads to a cell between two bounds, and its parts lie below a third.
pub record Span (low high parts : ℕ) (e : Edge) : Type 0 where
  pub from : low ≤ e.to
  pub to : e.to < high
  pub a : e.a < parts
  pub b : e.b < parts

row_span : {low high parts : ℕ} (w k a b n : ℕ) → (low ≤ k) × (k + n ≤ high) × (a < parts) × (b + n ≤ parts)
    → (e : Edge) → Row w k a b n e → Span low high parts e
row_span {low} {high} {parts} w k a b n fits e r =
    let x = r.inside in subst (Span low high parts) (sym r.is) (omega arith)

-- The edges of a rule from control p to control h, by its right side.
module _ (sh : Sizes) (fits : ShapeFits sh) (p γ h : ℕ) (ps : p < sh.controls) (γs : γ ≤ 15) (hs : h < sh.controls) where
  plain_right : (x : Right) → RightFits x → (e : Edge) → plain_by sh p γ h x e → Span 0 (first sh.controls) (first sh.controls) e
  plain_right Remove f e r = row_span _ _ _ _ _ (omega arith) e r
  plain_right (Swap a) f e r = row_span _ _ _ _ _ (omega arith) e r
  plain_right (Push a b) f e (inl r) =
      let q = r.inside in row_span _ _ _ _ _ (omega arith) e r.at
  plain_right (Push a b) f e (inr r) = row_span _ _ _ _ _ (omega arith) e r

  lane_right : (base : ℕ) → first sh.controls ≤ base → (x : Right) → RightFits x → (e : Edge) → lane_by sh base p γ h x e
      → Span base (base + part sh.controls) (base + part sh.controls) e
  lane_right base low Remove f e r = absurd r
  lane_right base low (Swap a) f e r = row_span _ _ _ _ _ (omega arith) e r
  lane_right base low (Push a b) f e (inl r) = go r.i r.inside r.at
    where
      go : (q : ℕ) → q < sh.controls
          → Row 1 (lane base p γ 0) (plain h a.0 (gone q)) (lane base q b.0 0) (sh.dests * 16) e ⊎
          Below sh.dests (λ i. Row 1 (lane base p γ i) (plain q b.0 i) (lane base h a.0 (gone q)) 16) e
          → Span base (base + part sh.controls) (base + part sh.controls) e
      go q l (inl s) = row_span _ _ _ _ _ (omega arith) e s
      go q l (inr s) =
          let d = s.inside in row_span _ _ _ _ _ (omega arith) e s.at
  lane_right base low (Push a b) f e (inr r) = row_span _ _ _ _ _ (omega arith) e r

  cross_right : (l : ℕ) → l < 16 → (x : Right) → RightFits x → (e : Edge) → cross_by sh l p γ h x e
      → Span (second sh.controls) (size sh.controls) (second sh.controls) e
  cross_right l i Remove f e r = absurd r
  cross_right l i (Swap a) f e r = absurd r
  cross_right l i (Push a b) f e r =
      let q = r.inside in row_span _ _ _ _ _ (omega arith) e r.at

-- The edges of all rules of a thread.
module _ (th : Thread) (sh : Sizes) (fits : ShapeFits sh) (within : RulesIn sh.controls th) where
  -- What holds of the edges of a rule from each control holds of those of all rules.
  each : (F : ℕ → ℕ → ℕ → Right → Edge → Type 0) (P : Edge → Type 0)
      → ((p γ h : ℕ) (x : Right) → p < sh.controls → γ ≤ 15 → h < sh.controls → RightFits x → (e : Edge) → F p γ h x e → P e)
      → (e : Edge) → Rules th sh.controls F e → P e
  each F P holds e r =
      let f = within.rules r.at.i r.at.inside in
      holds _ _ _ _ (f.from r.i r.inside) f.top f.to f.symbols e r.at.at

  pub plain_span : (e : Edge) → Rules th sh.controls (plain_by sh) e → Span 0 (first sh.controls) (first sh.controls) e
  plain_span =
      each (plain_by sh) (Span 0 (first sh.controls) (first sh.controls))
      (λ p γ h x ps γs hs f e w. plain_right sh fits p γ h ps γs hs x f e w)

  pub lane_span : (base : ℕ) → first sh.controls ≤ base → (e : Edge) → Rules th sh.controls (lane_by sh base) e
      → Span base (base + part sh.controls) (base + part sh.controls) e
  lane_span base low =
      each (lane_by sh base) (Span base (base + part sh.controls) (base + part sh.controls))
      (λ p γ h x ps γs hs f e w. lane_right sh fits p γ h ps γs hs base low x f e w)

  pub cross_span : (l : ℕ) → l < 16 → (e : Edge) → Rules th sh.controls (cross_by sh l) e
      → Span (second sh.controls) (size sh.controls) (second sh.controls) e
  cross_span l i =
      each (cross_by sh l) (Span (second sh.controls) (size sh.controls) (second sh.controls))
      (λ p γ h x ps γs hs f e w. cross_right sh fits p γ h ps γs hs l i x f e w)

-- The named top.
pub top_span : (top : Top) (N : ℕ) → TopFits top → 1 ≤ N → (e : Edge) → TopEdges top N e → Span 0 (first N) (first N) e
top_span None N fits some e r = absurd r
top_span (Some s) N fits some e r = let q = r.inside in row_span _ _ _ _ _ (omega arith) e r.at

-- All edges within one turn.
pub plains_span : (th : Thread) (top : Top) (N : ℕ) → ShapeFits (shape_of top N) → TopFits top → RulesIn N th → (e : Edge) → Plain th top N e
    → Span 0 (first N) (first N) e
plains_span th top N shape named within e (inl r) = top_span top N named shape.some e r
plains_span th top N shape named within e (inr r) = plain_span th (shape_of top N) shape within e r

-- Turn ends.
pub first_ends_span : (sh : Sizes) → ShapeFits sh → (e : Edge) → FirstEnds sh e
    → Span (first sh.controls) (second sh.controls) (first sh.controls) e
first_ends_span sh fits e r =
    let o = r.inside in
    let i = r.at.inside in
    let γ = r.at.at.inside in
    let d = r.at.at.at.inside in
    row_span _ _ _ _ _ (omega arith) e r.at.at.at.at

pub second_ends_span : (sh : Sizes) (o i : ℕ) → ShapeFits sh → o < sh.controls → i < sh.controls → (e : Edge) → SecondEnds sh o i e
    → Span (second sh.controls) (size sh.controls) (second sh.controls) e
second_ends_span sh o i fits p q e r =
    let γ = r.inside in row_span _ _ _ _ _ (omega arith) e r.at

-- All edges with at most one turn end inside.
pub first_span : (th : Thread) (top : Top) (N : ℕ) → ShapeFits (shape_of top N) → TopFits top → RulesIn N th → (e : Edge) → First th top N e
    → Span 0 (second N) (second N) e
first_span th top N shape named within e (inl r) = let s = plains_span th top N shape named within e r in omega arith
first_span th top N shape named within e (inr (inl r)) = let s = first_ends_span (shape_of top N) shape e r in omega arith
first_span th top N shape named within e (inr (inr r)) =
    let s = lane_span th (shape_of top N) shape within (first N) (omega arith) e r in omega arith

-- Edges of either of two sets.
pub either : {P Q : Edge → Type 0} {low high parts : ℕ} → ((e : Edge) → P e → Span low high parts e)
    → ((e : Edge) → Q e → Span low high parts e)
    → (e : Edge) → P e ⊎ Q e → Span low high parts e
either p q e (inl r) = p e r
either p q e (inr r) = q e r
