-- The parts that all lines share are exact by themselves where a line has at most one turn end; with two the last part is solved for it.
use mathlib.Core.List.{List}
use mathlib.Core.Path.{◌≡◌, refl, ap, ◌∙◌}
use Prim.Native.Nat.{ℕ, zero, suc, ◌≤◌, ◌<◌}
use native.Mathlib.Omega.{arith}
use Rattle.model.specs.declared.Thread.{Thread}
use Rattle.model.specs.Tops.{Top}
use Rattle.model.specs.Fits.{TopFits, ThreadFits}
use Rattle.summary.specs.Cells.{controls_of, second, First, Solved}
use Rattle.summary.specs.Control.{TurnEnd, Inside, Summed}
use Rattle.summary.proofs.Exacts.{plain_summed, first_summed}
use Rattle.costs.specs.declared.side.Side.{Side}
use Rattle.costs.specs.Ends.{ends_of}
use Rattle.costs.specs.Lanes.{line_of}
use Rattle.run.specs.Base.{Base, ExactFor, SideBase, SideRoom, SideSolved}
use Rattle.run.specs.Chosen.{Prepared}
use Rattle.run.specs.Plan.{ends_in, Planned}
use Rattle.run.specs.declared.plan.Plan.{Plan}

-- Where there are turn ends, both parts.
pub base_more : (t : Thread) (top : Top) (g n : ℕ) (table : List ℕ) → (n ≡ 0 → ⊥)
    → Solved (controls_of t g) (First t top (controls_of t g)) (second (controls_of t g)) table → Base t top g n table
base_more t top g zero table h s = absurd (h refl)
base_more t top g (suc n) table h s = s

-- .. and the other way.
pub base_first : (t : Thread) (top : Top) (g n : ℕ) (table : List ℕ) → (n ≡ 0 → ⊥) → Base t top g n table
    → Solved (controls_of t g) (First t top (controls_of t g)) (second (controls_of t g)) table
base_first t top g zero table h s = absurd (h refl)
base_first t top g (suc n) table h s = s

-- Two turn ends are some.
pub two_some : {n : ℕ} → n ≡ 2 → n ≡ 0 → ⊥
two_some e f = omega arith

-- So what is solved for two is exact for any number.
pub base_summed : {t : Thread} {top : Top} {g : ℕ} {table : List ℕ} {ends : ℕ → TurnEnd} (n : ℕ) → ThreadFits g t → TopFits top → 1 ≤ g → g ≤ 4
    → n ≤ 2 → Base t top g n table → Inside g n ends → (n ≡ 2 → Summed t top g n ends table) → Summed t top g n ends table
base_summed {ends} zero f k o l h s i two = plain_summed f k o l s ends
base_summed {ends} (suc zero) f k o l h s i two = first_summed f k o l s ends i
base_summed (suc (suc n)) f k o l h s i two = two (omega arith)

-- The states of a turn end.
pub end_read : {e : TurnEnd} {a b : ℕ} → record { leave = a; enter = b } ≡ e → (a ≡ e.leave) × (b ≡ e.enter)
end_read h = (ap (λ (x : TurnEnd). x.leave) h, ap (λ (x : TurnEnd). x.enter) h)

-- Solved for the same first turn end.
pub exact_same : {t : Thread} {top : Top} {g o i p q : ℕ} {table : List ℕ} → o ≡ p → i ≡ q → ExactFor t top g p q table → ExactFor t top g o i table
exact_same e f x = rw (e, f) x

-- The plan of a side along a line, where the table is solved for the line's first turn end.
pub prepared : {side : Side} {v : ℕ} {table : List ℕ} {plan : Plan} → SideRoom side table → Planned side.system.th side.id plan
    → plan.states ≡ side.system.g → plan.n ≡ side.n → ((j : ℕ) → j < side.n → ends_in plan j ≡ ends_of side.id (line_of side v) j)
    → SideBase side table → SideSolved side v table → Prepared side v table plan
prepared {side} {plan} room planned states turns ends base solved =
    let system = side.system in
    let controls : plan.controls ≡ controls_of system.th system.g = planned.controls ∙ ap (controls_of system.th) states in
    record {
      size = omega (arith, room, controls);
      planned = planned;
      states = states;
      turn_ends = turns;
      ends = ends;
      summed = λ i. base_summed _ system.fits system.top_in system.some system.four side.few base i (λ two.
          let e = ends 0 (omega (arith, two)) in
          rw two (solved two _ (rw two at i) (ap (λ (x : TurnEnd). x.leave) e) (ap (λ (x : TurnEnd). x.enter) e)));
    }
