-- The costs of the lines, filled in one after the other: a line whose first turn end has the lane that the table is solved
-- for gets its least steps, and each other line keeps its cost.
use mathlib.Core.List.{List}
use mathlib.Core.Path.{◌≡◌, refl, sym, subst, ◌∙◌}
use Prim.Native.Nat.{ℕ, suc, ◌+◌, ◌*◌, ◌^◌, ◌≤◌, ◌<◌}
use native.Mathlib.Decide.{ℕ_discrete}
use native.Mathlib.Omega.{arith}
use borrow.Author.Tests.{eq-eqb, ne_eqb}
use lib.ListN.{get_or}
use Rattle.model.specs.Tops.{Top}
use Rattle.std.specs.Prelude.{Some}
use Rattle.model.specs.Fits.{TopFits}
use Rattle.model.specs.Lines.{digits}
use Rattle.model.specs.declared.ThreadId.{ThreadId}
use Rattle.model.proofs.Positions.{length_digits, digits_states}
use Rattle.summary.specs.Control.{TurnEnd, Known, any, named, Inside, Summed}
use Rattle.summary.proofs.Numbers.{controls_range}
use Rattle.costs.specs.declared.side.Side.{Side}
use Rattle.costs.specs.Cost.{WhereNamed}
use Rattle.costs.specs.Ends.{turn_of, ends_of}
use Rattle.costs.specs.Lanes.{Value, line_of, SideCosts, SideLeast, first_lane, cost_of, CostsTo, ReadOff, SliceOff}
use Rattle.costs.proofs.Along.{ends_inside, first_inside, last_inside}
use Rattle.costs.proofs.Pairs.{pair_cost_lem}

-- The turn ends of the line of a value are states.
inside : (i : ThreadId) (G n v : ℕ) → v < G ^ (2 * suc n) → Inside G n (ends_of i (digits G (2 * suc n) v))
inside i G n v h = ends_inside i n (digits G (2 * suc n) v) (length_digits G (2 * suc n) v) (digits_states G (2 * suc n) v h)

-- What follows from what holds of the named top holds of it ..
pub where_map : {top : Top} {P Q : Top → Type 0} → WhereNamed top P → ((f : Top) → P f → Q f) → WhereNamed top Q
where_map p h = record { named = λ s e. h (Some s) (p.named s e) }

-- .. and so does what follows from two things that do, by what is known of a top of the table.
pub where_both : {top : Top} {P Q R : Top → Type 0} → WhereNamed top P → WhereNamed top Q
    → ((f : Top) → Known top f → P f → Q f → R f) → WhereNamed top R
where_both p q h =
    record { named = λ s e. h (Some s) (subst (λ t. Known t (Some s)) (sym e) named) (p.named s e) (q.named s e) }

-- A top of a table in range is in range.
known_fits : {top f : Top} → Known top f → TopFits top → TopFits f
known_fits any fits = tt
known_fits named fits = fits

module _ (side : Side) {f : Top} {tab : List ℕ} (k : Known side.system.top f) where
  -- The cost read off a table that is exact for a line is the least number of steps along it.
  least_at : (v : ℕ) → Value side v
      → Summed side.system.th side.system.top side.system.g side.n (ends_of side.id (line_of side v)) tab
      → SideLeast side f v (cost_of tab side f v)
  least_at v h sums =
      let system = side.system in
      let line : List ℕ = line_of side v in
      let size = length_digits system.g (2 * suc side.n) v in
      let states = digits_states system.g (2 * suc side.n) v h in
      let enough = (controls_range system.th system.g).0 in
      pair_cost_lem system.four system.fits (inside side.id system.g side.n v h) sums (turn_of side.id) _ system.th.first.0 f _
      (record { known = k; free = refl }) (known_fits k system.top_in)
      (first_inside side.id side.n line size states system.four enough side.start side.start_in) system.fits.first
      (last_inside side.id side.n line size states system.four enough)

  -- The costs of all lines, from a table that is exact for each of them.
  pub costs_all : (costs : List ℕ) {n : ℕ} → side.n ≡ n
      → ((ends : ℕ → TurnEnd) → Inside side.system.g n ends → Summed side.system.th side.system.top side.system.g n ends tab)
      → ReadOff tab side costs f → SideCosts side f costs
  costs_all costs same sums read v h =
      let exact = rw (sym same) at sums in
      rw (read v h) (least_at v h (exact (ends_of side.id (line_of side v)) (inside side.id side.system.g side.n v h)))

-- The first turn end of a line, where there are two, is of states.
first_end : (side : Side) (v : ℕ) → Value side v → side.n ≡ 2
    → ((ends_of side.id (line_of side v) 0).leave < side.system.g) × ((ends_of side.id (line_of side v) 0).enter < side.system.g)
first_end side v h n = inside side.id side.system.g side.n v h 0 (omega arith)

-- The costs for a top of the lines whose first turn end has a lane below l are known.
pub record Filled (side : Side) (l : ℕ) (costs : List ℕ) (f : Top) : Type 0 where
  pub known : CostsTo side f l costs

module _ {side : Side} {f : Top} where
  -- Before the first lane no line counts.
  pub known_none : {costs : List ℕ} → Filled side 0 costs f
  known_none = record { known = λ v h l. absurd (omega arith) }

  -- What is known of some lanes is known of fewer.
  pub known_fewer : {l m : ℕ} {costs : List ℕ} → m ≤ l → CostsTo side f l costs → Filled side m costs f
  known_fewer h known = record { known = λ v b l. known v b (omega arith) }

  -- The costs of the lines of one first turn end more.
  pub known_next : {o k : ℕ} {tab old new : List ℕ} → side.n ≡ 2 → Known side.system.top f → k < side.system.g
      → ((ends : ℕ → TurnEnd) → Inside side.system.g 2 ends → (ends 0).leave ≡ o → (ends 0).enter ≡ k
      → Summed side.system.th side.system.top side.system.g 2 ends tab)
      → SliceOff tab side (o * 4 + k) old new f → Filled side (o * 4 + k) old f → Filled side (o * 4 + (k + 1)) new f
  known_next {o} {k} {tab} {old} {new} n t room sums filled r = record { known = known }
    where
      known : CostsTo side f (o * 4 + (k + 1)) new
      known v h l =
          let first = first_end side v h n in
          let four = side.system.four in
          elim (ℕ_discrete (first_lane side v) (o * 4 + k)) [
            | yes s ↦
                let leave : (ends_of side.id (line_of side v) 0).leave ≡ o = omega (arith, first.1, s) in
                let enter : (ends_of side.id (line_of side v) 0).enter ≡ k = omega (arith, first.1, s) in
                let same : get_or new v 0 ≡ cost_of tab side f v = filled v h ∙ (rw (eq-eqb _ _ s) refl) in
                let exact = rw (sym n) at sums in
                rw same (least_at side t v h (exact (ends_of side.id (line_of side v)) (inside side.id side.system.g side.n v h) leave enter))
            | no u ↦
                let same : get_or new v 0 ≡ get_or old v 0 = filled v h ∙ (rw (ne_eqb _ _ u) refl) in
                rw same (r.known v h (omega (arith, l, u)))
          ]

  -- When all states have been entered, so have all lanes that leave at o.
  pub known_left : {k : ℕ} {costs : List ℕ} (o : ℕ) → side.n ≡ 2 → side.system.g ≤ k → Filled side (o * 4 + k) costs f
      → CostsTo side f (o * 4 + 4) costs
  known_left o n over r v h l =
      let first = first_end side v h n in
      let four = side.system.four in
      r.known v h (omega (arith, first.1, l))

  -- When all states have been left, the costs of all lines are known.
  pub known_all : {k : ℕ} {costs : List ℕ} → side.n ≡ 2 → side.system.g ≤ k → Filled side (k * 4) costs f → SideCosts side f costs
  known_all n over r v h =
      let first = first_end side v h n in
      let four = side.system.four in
      r.known v h (omega (arith, first.0, first.1))
