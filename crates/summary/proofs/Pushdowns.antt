-- What the parts of a table hold when a pushdown system's edges have been relaxed: its shape is the one of the definitions, and its rules
-- stay within its controls.
use mathlib.Core.List.{List}
use mathlib.Core.Path.{◌≡◌, sym, subst}
use Prim.Native.Nat.{ℕ, ◌≤◌, ◌<◌}
use native.Mathlib.Omega.{arith}
use Rattle.summary.specs.declared.Kind.TheVariants as kind
use Rattle.summary.specs.declared.pushdown.Pushdown.{Pushdown}
use lib.ListN.{length}
use Rattle.summary.specs.Cells.{Ready, controls_of, first, second, size, lane_of, TopEdges, FirstEnds, SecondEnds, Rules, Reset, Plain, First, Second, Solved}
use Rattle.summary.specs.Edges.{Edge, Relaxed, Closes}
use Rattle.summary.specs.Kinds.{RuleEdges, RulesIn}
use Rattle.summary.specs.Shapes.{sizes}
use Rattle.summary.specs.Sizes.{Sizes, shape_of, ShapeFits}
use Rattle.summary.proofs.Capped.{reset_counts}
use Rattle.summary.proofs.Numbers.{controls_range, rules_in_lem}
use Rattle.summary.proofs.Relaxing.{then}
use Rattle.summary.proofs.Resets.{top_zeros}
use Rattle.summary.proofs.Solving.{solves_first, solves_next, apart}
use Rattle.summary.proofs.Spans.{top_span, plain_span, plains_span, first_ends_span, lane_span, first_span, second_ends_span, cross_span, either}

-- The rules of a system stay within the controls of its table.
pub rules_within : (p : Pushdown) → RulesIn p.shape.controls p.th
rules_within p = subst (λ n. RulesIn n p.th) (sym p.controls) (rules_in_lem p.four p.fits)

-- Its shape is the one for its top and its controls.
pub shaped : (p : Pushdown) → sizes p.shape ≡ shape_of p.top (controls_of p.th p.g)
shaped p = λ i. record { controls = p.controls i; stays = p.stays i; dests = p.dests i }

-- A table that is solved up to a part, and blank from there up to a bound, is ready for edges below the bound.
pub ready_reset : (part : ℕ → ℕ) {W : Edge → Type 0} {n N high : ℕ} {t u : List ℕ} → n ≡ N → size N ≤ length t → Solved N W (part N) t
    → Reset n (part n) high t u → Ready n high u
ready_reset part e room solved reset =
    let blank = rw e at reset in record { room = omega (arith, reset.size, room, e); counts = reset_counts solved blank }

module _ (p : Pushdown) where
  abbrev N : ℕ
  N = controls_of p.th p.g

  within : RulesIn N p.th
  within = rules_in_lem p.four p.fits

  fits : ShapeFits (shape_of p.top N)
  fits = subst ShapeFits (shaped p) p.shape.fits

  -- The first part, made blank, with the edges of the named top and those of the rules within a turn.
  pub plain_of : {t u v z : List ℕ} {j : ℕ} (sh : Sizes) → sh ≡ shape_of p.top N → Reset sh.controls 0 (first sh.controls) t u
      → Relaxed (TopEdges p.top sh.controls) u v j → Closes (Rules p.th sh.controls (RuleEdges kind.Plain sh)) v z
      → Solved N (Plain p.th p.top N) (first N) z
  plain_of sh e reset tops settle =
      let blank = rw e at reset in
      solves_first (top_span p.top N p.top_in fits.some) (plain_span _ _ fits within) blank
      (top_zeros p.top N fits.some blank) (rw e at tops) (rw e at settle)

  -- The second part, from a solved first one.
  pub first_of : {t u v z : List ℕ} {j : ℕ} (sh : Sizes) → sh ≡ shape_of p.top N → Solved N (Plain p.th p.top N) (first N) t
      → Reset sh.controls (first sh.controls) (second sh.controls) t u → Relaxed (FirstEnds sh) u v j
      → Closes (Rules p.th sh.controls (RuleEdges (kind.Lanes (first sh.controls)) sh)) v z
      → Solved N (First p.th p.top N) (second N) z
  first_of sh e plain reset ends settle =
      (solves_next (omega arith) (omega arith) (plains_span _ p.top _ fits p.top_in within) (first_ends_span _ fits)
      (lane_span _ _ fits within (first _) (omega arith)) plain (rw e at reset) (rw e at ends) (rw e at settle)).0

  -- The third part, from a solved first and second one, for a first turn end.
  pub second_of : {t u v w z : List ℕ} {j k o i : ℕ} (sh : Sizes) → sh ≡ shape_of p.top N → o < p.g → i < p.g
      → Solved N (First p.th p.top N) (second N) t
      → Reset sh.controls (second sh.controls) (size sh.controls) t u → Relaxed (SecondEnds sh o i) u v j
      → Relaxed (Rules p.th sh.controls (RuleEdges (kind.Cross (lane_of o i)) sh)) v w k
      → Closes (Rules p.th sh.controls (RuleEdges (kind.Lanes (second sh.controls)) sh)) w z
      → Solved N (Second p.th p.top N o i) (size N) z × Solved N (First p.th p.top N) (second N) z
  second_of {o = o} {i = i} sh e leave enter firsts reset ends cross settle =
      let few = (controls_range p.th p.g).0 in
      let both =
      solves_next (omega arith) (omega arith) (first_span _ p.top _ fits p.top_in within)
      (either (second_ends_span _ o i fits (omega arith) (omega arith)) (cross_span _ _ fits within (lane_of o i) (omega (arith, p.four))))
      (lane_span _ _ fits within (second _) (omega arith)) firsts (rw e at reset) (then (rw e at ends) (rw e at cross)) (rw e at settle) in
      (apart both.0, both.1)
