-- The cells of the table, and the edges that a thread's rules and turn ends make between them.
use Rattle.std.specs.Prelude.{Bool, cond, ◌&&◌, List, ◌⊎◌, ◌≡◌, ℕ, ◌+◌, ◌-◌, ◌*◌, ◌/◌, ◌%◌, ◌≤◌, ◌<◌, min, ltb, eqb, length}
use Rattle.model.specs.Bits.{all_zero, one_if}
use Rattle.model.specs.declared.Right.{Right}
use Rattle.model.specs.declared.Right.TheVariants.{Remove, Swap, Push}
use Rattle.model.specs.declared.Thread.{Thread}
use Rattle.model.specs.Tops.{Top}
use Rattle.std.specs.Prelude.{None, Some}
use Rattle.model.specs.Rules.{rule_at, held_at}
use Rattle.summary.specs.Sizes.{Sizes, shape_of}
use Rattle.summary.specs.Edges.{Edge, EdgeHolds, From, cell, Counts, Row, Below, NoEdge}
use Rattle.summary.specs.Table.{unreached}

-- Controls are numbered: 0 to 3 are the shared states, 4 to 7 the same after a held step.
abbrev pub number_of : Bool → ℕ → ℕ
number_of held q = 4 * one_if held + q

-- How many controls a thread's table has, with g states: those after a held step only where rules are held.
abbrev pub controls_of : Thread → ℕ → ℕ
controls_of t g = cond (all_zero t.held) g (4 + g)

-- The cell of the stretches within one turn from control p with symbol γ on top to destination d, of sixteen. Destinations 0 to 3 are
-- the pops at a state, 4 to 7 the stays, 8 to 11 the stays under the named top, 12 to 15 the pops at a state after a held step. Symbol
-- 16 is the floor.
abbrev pub plain : ℕ → ℕ → ℕ → ℕ
plain p γ d = (p * 17 + γ) * 16 + d

-- The destination of a pop at a control.
abbrev pub gone : ℕ → ℕ
gone p = p + 8 * (p / 4)

-- The first of the destinations of staying under a top.
abbrev pub stays_of : Top → ℕ
stays_of None = 4
stays_of (Some s) = 8

-- The controls that no held step has just led to.
abbrev pub free_of : ℕ → ℕ
free_of n = min n 4

-- How many controls have the same shared state.
abbrev pub flags_of : ℕ → ℕ
flags_of n = cond (ltb 4 n) 2 1

-- The first cell of those with turn ends inside, in the part of the table that starts at `base`: sixteen lanes, one a turn end.
abbrev pub lane : ℕ → ℕ → ℕ → ℕ → ℕ
lane base p γ d = base + plain p γ d * 16

-- The lane of a turn end: a turn is left at o, and the next one of the thread is entered at i.
abbrev pub lane_of : ℕ → ℕ → ℕ
lane_of o i = o * 4 + i

-- Where the part with one turn end inside starts, by the number of controls.
abbrev pub first : ℕ → ℕ
first n = 272 * n

-- How many cells a part with turn ends has.
abbrev pub part : ℕ → ℕ
part n = 4352 * n

-- Where the part with two starts.
abbrev pub second : ℕ → ℕ
second n = first n + part n

-- Where the table ends.
abbrev pub size : ℕ → ℕ
size n = second n + part n

-- A table of n controls has all its cells, and those below a bound hold counts.
pub record Ready (n bound : ℕ) (table : List ℕ) : Type 0 where
  pub room : size n ≤ length table
  pub counts : Counts bound table

-- A cell that is 0: to stay in place takes no step. It serves edges that have one part.
abbrev pub rest : ℕ
rest = 4

-- What a cell holds at the start: staying in place takes no step, and nothing else is reached. After a held step there is no staying.
unfoldable pub blank : ℕ → ℕ → ℕ
blank n at = cond (ltb at (first (free_of n)) && eqb (at % 16) (4 + at / 272)) 0 unreached

-- A table of n controls is made blank from a cell on, up to another, and kept below.
pub record Reset (n from to : ℕ) (old new : List ℕ) : Type 0 where
  pub size : length new ≡ length old
  pub inside : (at : ℕ) → from ≤ at → at < to → cell new at ≡ blank n at
  pub below : (at : ℕ) → at < from → cell new at ≡ cell old at

-- The destination of staying in place, of a control and a symbol in their order; 16, which is none, after a held step.
abbrev pub stay_of : ℕ → ℕ
stay_of k = cond (ltb k 68) (4 + k / 17) 16

-- The first n of sixteen cells of a control and a symbol are blank, and those before them kept: staying takes no step.
pub record ResetNode (from stay n : ℕ) (old new : List ℕ) : Type 0 where
  pub size : length new ≡ length old
  pub inside : (d : ℕ) → d < n → cell new (from + d) ≡ cond (eqb d stay) 0 unreached
  pub below : (at : ℕ) → at < from → cell new at ≡ cell old at

-- The edges of the named top: with that symbol on top, to stay in place takes no step.
abbrev pub TopEdges : Top → ℕ → Edge → Type 0
TopEdges None n = NoEdge
TopEdges (Some s) n = Below (free_of n) (λ q. Row 0 (plain q s.0 (8 + q)) rest rest 1)

-- The edges within one turn of a rule from control p with γ on top to control h, by its right side.
abbrev pub plain_by : Sizes → ℕ → ℕ → ℕ → Right → Edge → Type 0
plain_by sh p γ h Remove = Row 1 (plain p γ (gone h)) rest rest 1
plain_by sh p γ h (Swap a) = Row 1 (plain p γ 0) rest (plain h a.0 0) sh.dests
plain_by sh p γ h (Push a b) =
    λ e.
    Below sh.controls (λ q. Row 1 (plain p γ 0) (plain h a.0 (gone q)) (plain q b.0 0) sh.dests) e ⊎ Row 1 (plain p γ 4) rest (plain h a.0 4) (sh.stays - 4) e

-- The edges of such a rule with turn ends inside one of its parts: the first part is within the turn, or the second is.
abbrev pub lane_by : Sizes → ℕ → ℕ → ℕ → ℕ → Right → Edge → Type 0
lane_by sh base p γ h Remove = NoEdge
lane_by sh base p γ h (Swap a) = Row 1 (lane base p γ 0) rest (lane base h a.0 0) (sh.dests * 16)
lane_by sh base p γ h (Push a b) =
    λ e.
    Below sh.controls
    (λ q e. Row 1 (lane base p γ 0) (plain h a.0 (gone q)) (lane base q b.0 0) (sh.dests * 16) e ⊎ Below sh.dests (λ d. Row 1 (lane base p γ d) (plain q b.0 d) (lane base h a.0 (gone q)) 16) e)
    e ⊎ Row 1 (lane base p γ 4) rest (lane base h a.0 4) ((sh.stays - 4) * 16) e

-- The edges of such a rule whose parts each have one turn end inside, the first part the one of lane l.
abbrev pub cross_by : Sizes → ℕ → ℕ → ℕ → ℕ → Right → Edge → Type 0
cross_by sh l p γ h Remove = NoEdge
cross_by sh l p γ h (Swap a) = NoEdge
cross_by sh l p γ h (Push a b) =
    Below sh.controls
    (λ q. Row 1 (lane (second sh.controls) p γ 0) (lane (first sh.controls) h a.0 (gone q) + l) (lane (first sh.controls) q b.0 0) (sh.dests * 16))

-- The edges of one turn end, which takes no step and never comes after a held one: left at o, entered at i.
abbrev pub FirstEnds : Sizes → Edge → Type 0
FirstEnds sh =
    Below (free_of sh.controls)
    (λ o. Below (free_of sh.controls) (λ i. Below 17 (λ γ. Below sh.dests (λ d. Row 0 (lane (first sh.controls) o γ d + lane_of o i) rest (plain i γ d) 1))))

-- The edges of the turn end (o, i) before another one.
abbrev pub SecondEnds : Sizes → ℕ → ℕ → Edge → Type 0
SecondEnds sh o i =
    Below 17 (λ γ. Row 0 (lane (second sh.controls) o γ 0) rest (lane (first sh.controls) i γ 0) (sh.dests * 16))

-- The control that rule r of a thread leads to.
abbrev pub to_of : Thread → ℕ → ℕ
to_of t r = number_of (held_at t r) (rule_at t r).after.0

-- The edges of all rules of a thread from the controls with flag f: 0 for the states, 1 for the states after a held step.
abbrev pub RulesFrom : Thread → (ℕ → ℕ → ℕ → Right → Edge → Type 0) → ℕ → Edge → Type 0
RulesFrom t F f =
    Below t.count (λ r. F (4 * f + (rule_at t r).before.0) (rule_at t r).symbol.0 (to_of t r) (rule_at t r).right)

-- The edges of all rules of a thread: each acts from each of n controls that has its before state.
abbrev pub Rules : Thread → ℕ → (ℕ → ℕ → ℕ → Right → Edge → Type 0) → Edge → Type 0
Rules t n F = Below (flags_of n) (RulesFrom t F)

-- All edges with no turn end inside, of a table of n controls for a top.
abbrev pub Plain : Thread → Top → ℕ → Edge → Type 0
Plain t top n e = TopEdges top n e ⊎ Rules t n (plain_by (shape_of top n)) e

-- All edges with at most one.
abbrev pub First : Thread → Top → ℕ → Edge → Type 0
First t top n e = Plain t top n e ⊎ (FirstEnds (shape_of top n) e ⊎ Rules t n (lane_by (shape_of top n) (first n)) e)

-- All edges with at most two, of which the first is (o, i).
abbrev pub Second : Thread → Top → ℕ → ℕ → ℕ → Edge → Type 0
Second t top n o i e =
    First t top n e ⊎ (SecondEnds (shape_of top n) o i e ⊎ (Rules t n (cross_by (shape_of top n) (lane_of o i)) e ⊎ Rules t n (lane_by (shape_of top n) (second n)) e))

-- The cells below a bound are solved for a set of edges: each follows from the blank table of n controls, and every edge holds.
pub record Solved (n : ℕ) (W : Edge → Type 0) (bound : ℕ) (table : List ℕ) : Type 0 where
  pub low : (at : ℕ) → at < bound → cell table at ≤ blank n at
  pub derived : (at : ℕ) → at < bound → From W (blank n) at (cell table at)
  pub closed : (e : Edge) → W e → EdgeHolds table e
