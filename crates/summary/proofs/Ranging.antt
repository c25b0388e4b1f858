-- Moves and turn ends lead nowhere outside the table: a rule in range leads to a state below G, and a turn end of a
-- line of such states too.
use Prim.Native.Nat.{ℕ, ◌≤◌}
use native.Mathlib.Omega.{arith}
use Rattle.model.specs.declared.Right.{Right}
use Rattle.model.specs.declared.Right.TheVariants.{Remove, Swap, Push}
use Rattle.model.specs.declared.Thread.{Thread}
use Rattle.model.specs.Walk.{Step}
use Rattle.model.proofs.Inside.{applies_iff}
use Rattle.model.specs.Fits.{RightFits, ThreadFits}
use Rattle.summary.specs.Cells.{controls_of}
use Rattle.summary.specs.Control.{Control, TurnEnd, Moves, Switches, InTable, Inside}
use Rattle.summary.proofs.Numbers.{controls_range, rules_in_lem}
use Rattle.summary.proofs.Tables.{Symbols, Ranged}

-- The symbols of the table; 16 is the floor.
abbrev pub Sym : ℕ → Type 0
Sym γ = γ ≤ 16

-- Moves and turn ends lead from controls and symbols of the table to such.
pub ranged : {t : Thread} {G n : ℕ} (turn_of : ℕ → ℕ) {ends : ℕ → TurnEnd} → G ≤ 4 → ThreadFits G t → Inside G n ends
    → Ranged (Moves t turn_of) (Switches ends n) (InTable (controls_of t G) n) Sym
ranged {t} {G} {n} turn_of {ends} four fits inside =
    record {
      moves = λ {c} {c₁} {γ} {s} {x} p m. moves p m;
      switches = λ {c} {c₁} p s. switches p s;
    }
  where
    low : (x : Right) → RightFits x → Symbols Sym x
    low Remove f = tt
    low (Swap a) f = omega arith
    low (Push a b) f = (omega arith, omega arith)

    moves : {c c₁ : Control} {γ : ℕ} {s : Step} {x : Right} → InTable (controls_of t G) n c → Moves t turn_of c γ s x c₁
        → InTable (controls_of t G) n c₁ × Symbols Sym x
    moves {c} {c₁} {γ} {s} {x} p m =
        let listed = ((applies_iff t s.rule c.shared γ).0 m.rule).listed in
        let r = fits.rules s.rule listed in
        let to = ((rules_in_lem four fits).rules s.rule listed).to in (
          record { passed = omega (arith, m.passed, p.passed); shared = omega (arith, m.shared, r.next); number = rw (m.held, m.shared) to },
          low x (rw m.right at r.symbols),
        )

    switches : {c c₁ : Control} → InTable (controls_of t G) n c → Switches ends n c c₁ → InTable (controls_of t G) n c₁
    switches {c} {c₁} p s =
        let enter = (inside c.passed s.more).1 in
        record {
          passed = omega (arith, s.more, s.passed);
          shared = omega (arith, s.enter);
          number = rw s.fresh (omega (arith, s.enter, (controls_range t G).0));
        }
