-- Controls and their numbers: a control in range is given back by its number, and the destination of a pop by the number of its control.
use mathlib.Core.Bool.{Bool, true, false, cond}
use mathlib.Core.Path.{◌≡◌, refl}
use Prim.Native.Nat.{ℕ, ◌+◌, ◌*◌, ◌≤◌, ◌<◌}
use native.Mathlib.Decide.{dec_le, dec_lt}
use native.Mathlib.Omega.{arith}
use borrow.Author.Tests.{le-leb, lt-leb, le-ltb, lt-ltb}
use Rattle.model.specs.Bits.{one_if, all_zero}
use Rattle.model.specs.declared.Thread.{Thread}
use Rattle.model.specs.Tops.{Top}
use Rattle.std.specs.Prelude.{None, Some}
use Rattle.model.specs.Fits.{ThreadFits}
use Rattle.model.specs.Rules.{rule_at, held_at}
use Rattle.model.proofs.Marks.{no_bit}
use Rattle.summary.specs.Sizes.{stays_end, shape_of, ShapeFits}
use Rattle.summary.specs.Cells.{number_of, controls_of, gone, stays_of, flags_of, to_of}
use Rattle.summary.specs.Control.{Control, number, numbered, dest, Known, any, named, InTable, EndInTable}
use Rattle.summary.specs.Kinds.{RuleIn, RulesIn}
use Rattle.summary.specs.Stretch.{End, pop, stay}

-- Flags are equal where their numbers are.
flag_eq : (a b : Bool) → one_if a ≡ one_if b → a ≡ b
flag_eq true true e = refl
flag_eq true false e = absurd (omega arith)
flag_eq false true e = absurd (omega arith)
flag_eq false false e = refl

-- A flag whose number is 0 does not stand.
pub flag_clear : (a : Bool) → one_if a ≡ 0 → a ≡ false
flag_clear a e = flag_eq a false e

-- Controls are equal by their fields.
pub control_eq : (c d : Control) → c.passed ≡ d.passed → one_if c.held ≡ one_if d.held → c.shared ≡ d.shared → c ≡ d
control_eq c d p h q = let same = flag_eq c.held d.held h in λ i. record { passed = p i; held = same i; shared = q i }

-- The control that has a number, and its destination of a pop.
pub number_at : (j p : ℕ) → p < 8 → (number (numbered j p) ≡ p) × (dest (pop (numbered j p)) ≡ gone p)
number_at j p h =
    elim (dec_le 4 p) [
      | yes l ↦ rw (le-leb 4 p l) (omega arith, omega arith)
      | no l ↦ rw (lt-leb 4 p (omega arith)) (omega arith, omega arith)
    ]

-- The destination of a pop, by the number of its control.
pub gone_number : (c : Control) → c.shared < 4 → gone (number c) ≡ dest (pop c)
gone_number c h = omega arith

-- A control below N has as many flags as N controls have.
pub flag_low : (N : ℕ) (held : Bool) (q : ℕ) → number_of held q < N → one_if held < flags_of N
flag_low N true q h = rw (lt-ltb 4 N (omega arith)) (omega arith)
flag_low N false q h =
    elim (dec_lt 4 N) [
      | yes l ↦ rw (lt-ltb 4 N l) (omega arith)
      | no l ↦ rw (le-ltb 4 N (omega arith)) (omega arith)
    ]

-- The number of a flag is at most 1.
flag_most : (a : Bool) → one_if a ≤ 1
flag_most true = omega arith
flag_most false = omega arith

-- A control, given back by its turn ends and its number.
pub numbered_is : (c : Control) (j p : ℕ) → j ≡ c.passed → p ≡ number c → c.shared < 4 → numbered j p ≡ c
numbered_is c j p e f h =
    let one = flag_most c.held in
    let is = (number_at j p (omega arith)).0 in
    control_eq (numbered j p) c e (omega arith) (omega arith)

-- The control of a number below those of a table is one of it.
pub numbered_in : {controls n j p : ℕ} → controls ≤ 8 → j ≤ n → p < controls → InTable controls n (numbered j p)
numbered_in {j = j} {p = p} most h l =
    record { passed = h; shared = omega arith; number = rw (number_at j p (omega arith)).0 l }

-- The stays of a table for a top end at 8 or at 12.
pub stays_range : (top : Top) → (8 ≤ stays_end top) × (stays_end top ≤ 12)
stays_range None = omega arith
stays_range (Some s) = omega arith

-- They are four, from the first of them on.
pub stays_after : (top : Top) → stays_of top + 4 ≡ stays_end top
stays_after None = refl
stays_after (Some s) = refl

-- All destinations end there, or at 16.
dests_range : (top : Top) (N : ℕ) → (stays_end top ≤ (shape_of top N).dests) × ((shape_of top N).dests ≤ 16)
dests_range top N =
    let stays = stays_range top in
    elim (dec_lt 4 N) [
      | yes l ↦ rw (lt-ltb 4 N l) (omega arith, omega arith)
      | no l ↦ rw (le-ltb 4 N (omega arith)) (omega arith, omega arith)
    ]

-- The first of the stays under a top is at most 8.
pub stays_low : (top : Top) → stays_of top ≤ 8
stays_low None = omega arith
stays_low (Some s) = omega arith

-- A thread with g states has at least those controls and at most four more.
pub controls_range : (t : Thread) (g : ℕ) → (g ≤ controls_of t g) × (controls_of t g ≤ 4 + g)
controls_range t g = go (all_zero t.held)
  where
    go : (free : Bool) → (g ≤ cond free g (4 + g)) × (cond free g (4 + g) ≤ 4 + g)
    go true = (omega arith, omega arith)
    go false = (omega arith, omega arith)

-- Rules in range stay within the thread's controls: where a rule is held, there are those after a held step.
pub rules_in_lem : {t : Thread} {g : ℕ} → g ≤ 4 → ThreadFits g t → RulesIn (controls_of t g) t
rules_in_lem {t} {g} four fits = record { count = fits.count; rules = λ r h. go r h (all_zero t.held) refl }
  where
    go : (r : ℕ) → r < t.count → (free : Bool) → all_zero t.held ≡ free → RuleIn (cond free g (4 + g)) (to_of t r) (rule_at t r)
    go r h true e =
        let f = fits.rules r h in
        record {
          from = λ i l. let k : i < 1 = rw (le-ltb 4 g four) at l in omega (arith, f.state);
          to = rw (no_bit t.held (rw e tt) r) (omega (arith, f.next));
          top = f.top;
          symbols = f.symbols;
        }
    go r h false e =
        let f = fits.rules r h in
        record {
          from = λ i l. let k : i < 2 = rw (lt-ltb 4 (4 + g) (omega (arith, f.state))) at l in omega (arith, f.state);
          to = omega (arith, f.next, flag_most (held_at t r));
          top = f.top;
          symbols = f.symbols;
        }

-- A shape for a top is in range.
pub shape_fits : (top : Top) (N : ℕ) → 1 ≤ N → N ≤ 8 → ShapeFits (shape_of top N)
shape_fits top N some most =
    let stays = stays_range top in
    let dests = dests_range top N in
    record { some = some; controls = most; low = stays.0; stays = stays.1; all = dests.0; dests = dests.1 }

-- The number of a destination is below those that a table uses.
pub dest_low : (top : Top) (N : ℕ) {n : ℕ} (d : End Control) → N ≤ 8 → EndInTable top N n d → dest d < (shape_of top N).dests
dest_low top N (pop c) most (o, k) = low c.held o.shared o.number
  where
    low : (held : Bool) → c.shared < 4 → number_of held c.shared < N → 12 * one_if held + c.shared < (shape_of top N).dests
    low true h l = rw (lt-ltb 4 N (omega arith)) (omega arith)
    low false h l = omega (arith, stays_range top, dests_range top N)
dest_low top N (stay None c) most (o, k) = omega (arith, o.shared, stays_range top, dests_range top N)
dest_low (Some s) N (stay (Some r) c) most (o, k) = omega (arith, o.shared, dests_range (Some s) N)
dest_low None N (stay (Some r) c) most (o, k) = absurd (other k.known refl refl)
  where
    other : {top f : Top} → Known top f → top ≡ None → f ≡ Some r → ⊥
    other any e h = let z : ◌≡◌ {A = ℕ} 0 1 = cc in omega arith
    other named e h = let z : ◌≡◌ {A = ℕ} 0 1 = cc in omega arith

-- A stay has a number from 4 on, below where the stays end.
pub stay_span : (top : Top) (f : Top) (c : Control) → Known top f → c.shared < 4
    → (4 ≤ dest (stay f c)) × (dest (stay f c) < stays_end top)
stay_span top None c any h = omega (arith, stays_range top)
stay_span (Some s) (Some r) c named h = omega arith
stay_span None (Some r) c x3 h = elim x3 [ ]
