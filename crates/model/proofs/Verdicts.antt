-- At most one verdict is true of a model: a run that reaches the target contradicts Clear, and shortest runs have one length.
use mathlib.Core.Path.{◌≡◌, refl, ap}
use Prim.Native.Nat.{ℕ}
use native.Mathlib.Omega.{arith}
use Rattle.model.specs.declared.Model.{Model}
use Rattle.model.specs.Verdict.{Verdict, clear, long, found, Shortest, Judged}

-- Two shortest runs have equally many steps.
one_length : {m : Model} {i j : ℕ} → Shortest m i → Shortest m j → i ≡ j
one_length s t = omega (arith, s.least t.schedule t.reaches, t.least s.schedule s.reaches, s.steps, t.steps)

-- Long and Found exclude each other.
not_both : {m : Model} {n : ℕ} → Judged m long → Judged m (found n) → ⊥
not_both p q = omega (arith, p.1 q.1.schedule q.1.reaches, q.0, q.1.steps)

-- A verdict that is true of a model is the only one.
pub one_verdict : (m : Model) (v w : Verdict) → Judged m v → Judged m w → v ≡ w
one_verdict m clear clear p q = refl
one_verdict m clear long p q = absurd (p q.0.0 q.0.1)
one_verdict m clear (found n) p q = absurd (p q.1.schedule q.1.reaches)
one_verdict m long clear p q = absurd (q p.0.0 p.0.1)
one_verdict m long long p q = refl
one_verdict m long (found n) p q = absurd (not_both p q)
one_verdict m (found n) clear p q = absurd (q p.1.schedule p.1.reaches)
one_verdict m (found n) long p q = absurd (not_both q p)
one_verdict m (found n) (found k) p q = ap found (one_length p.1 q.1)
