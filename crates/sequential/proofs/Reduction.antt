-- The sequential system is right: its run to the check symbol is A's half, the helper, and B's half above what A left, and such halves are
-- the two threads' parts of a run of K rounds.
use mathlib.Core.List.{List, [], ◌∷◌, ◌++◌}
use mathlib.Core.Logic.{◌⊎◌, inl, inr}
use mathlib.Core.Path.{◌≡◌, refl, ap}
use Prim.Native.Nat.{ℕ, ◌≤◌}
use native.Mathlib.Omega.{arith}
use Rattle.model.specs.declared.Model.{Model}
use Rattle.model.specs.declared.ThreadId.{ThreadId}
use Rattle.model.specs.declared.ThreadId.TheVariants.{A, B}
use Rattle.model.specs.Fits.{Fits}
use Rattle.model.specs.Walk.{thread_of}
use Rattle.model.proofs.Inside.{fits_of}
use Rattle.sequential.specs.Allowed.{symbol_of, bottom, closing, at, Kind, acts, passes, closes, begins, Begins, Allowed}
use Rattle.sequential.specs.Rounds.{Checks, Reduces}
use Rattle.sequential.specs.System.{State, StackRule, Run, stop, step}
use Rattle.sequential.proofs.Halves.{made, found}
use Rattle.sequential.proofs.Phases.{Parts, rounds_parts}
use Rattle.sequential.proofs.Tops.{symbol, owned, low, Symbols, stack}
pub use Rattle.sequential.proofs.Phases.{Unheld}

module _ {m : Model} (f : Fits m) where
  -- A rule applies to a thread's top, or begins B's half.
  tops : {r : StackRule} → Kind m r → (r.top ≤ 33) ⊎ Begins m r
  tops (acts a) = inl (low a.id (symbol _ ((fits_of f a.id).rules a.number a.listed).top a.symbol))
  tops (passes a) = inl a.symbol
  tops (closes a) = inl (low a.id ((owned a.id _).0 a.symbol))
  tops (begins a) = inr a

  -- So with the helper on top B begins ..
  begun : {s t : State} {u v w o : List ℕ} → Run (Allowed m) s u t v → u ≡ closing A ∷ w → v ≡ closing B ∷ o
      → Run (Allowed m) s (symbol_of B m.b.first.0 ∷ bottom B ∷ w) t v
  begun stop e k = absurd (let z : ◌≡◌ {A = ℕ} 35 34 = cc in omega arith)
  begun {w = w} (step {top = top} {w = rest} a r) e k =
      elim (tops a.kind) [
        | inl h ↦ absurd (let z : top ≡ 35 = cc in omega arith)
        | inr b ↦ let same : rest ≡ w = cc in rw (b.after, b.right, same) at r
      ]

  -- .. and with the check symbol on top the run is over.
  over : {s t : State} {u v w : List ℕ} → Run (Allowed m) s u t v → u ≡ closing B ∷ w → s ≡ t
  over stop e = refl
  over (step {top = top} a r) e =
      let z : top ≡ 34 = cc in
      elim (tops a.kind) [ inl h ↦ absurd (omega arith) | inr b ↦ absurd (omega (arith, b.symbol)) ]

  -- A thread's first symbol is at most 15.
  first : (id : ThreadId) → Symbols ((thread_of id m).first.0 ∷ [])
  first id = (omega (arith, (fits_of f id).first), tt)

  -- A run to the check symbol is made of the two threads' parts ..
  checks_parts : {gs : List ℕ} {e : ℕ} → Checks (Allowed m) m gs e → Parts m gs e
  checks_parts {gs} {e} c =
      let t = at 1 (gs ++ (e ∷ [])) in
      let a = found f t A [] (m.start.0 ∷ gs) (m.a.first.0 ∷ []) (first A) c in
      let r = begun a.rest.1 refl refl in
      let b = found f t B (stack A a.left []) a.ended (m.b.first.0 ∷ []) (first B) (a.rest.0, r) in
      let same : b.ended ≡ gs ++ (e ∷ []) = ap (λ (s : State). s.copies) (over b.rest.1 refl) in
      record { state = a.state; middle = a.ended; a = a.phase; b = rw same at b.phase }

  -- .. and two parts make one.
  parts_checks : {gs : List ℕ} {e : ℕ} → Parts m gs e → Checks (Allowed m) m gs e
  parts_checks {gs} {e} p =
      let t = at 1 (gs ++ (e ∷ [])) in
      made f t A [] [] p.a p.state (first A) λ v h.
      let r = made f t B (stack A v []) [] p.b h (first B) (λ u k. (stack B u (stack A v []), stop)) in
      (r.0, step (record { state = h; kind = begins (record { turn = refl; symbol = refl; after = refl; right = refl }) }) r.1)

-- The reduction is right: for a model in range without held rules, the check symbol comes on top exactly for its runs of K rounds.
pub reduces : (m : Model) → Fits m → Unheld m → Reduces (Allowed m) m
reduces m f free gs e = let r = rounds_parts f free in (λ c. r.1 (checks_parts f c), λ h. parts_checks f (r.0 h))
