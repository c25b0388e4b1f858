-- Exits that are filled from a thread's table are exact: each is the entry of its stretch in the table.
use mathlib.Core.List.{List}
use mathlib.Core.Path.{◌≡◌, refl, sym, subst}
use Prim.Native.Nat.{ℕ, ◌+◌, ◌/◌, ◌%◌, ◌≤◌, ◌<◌}
use native.Mathlib.Decide.{dec_le}
use native.Mathlib.Nat.{le_refl}
use native.Mathlib.Omega.{arith}
use borrow.Author.Tests.{le-leb, lt-leb}
use Rattle.model.specs.declared.Thread.{Thread}
use Rattle.model.specs.declared.ThreadId.{ThreadId}
use Rattle.model.specs.Tops.{Top}
use Rattle.std.specs.Prelude.{None, Some}
use Rattle.costs.specs.Cost.{control}
use Rattle.costs.specs.Ends.{turn_of}
use Rattle.summary.specs.Cells.{stays_of}
use Rattle.summary.specs.Control.{Control, number, Moves, Switches, entry, InTable, Known, any, named, EndInTable, Summed}
use Rattle.summary.specs.Stretch.{End, pop, stay}
use Rattle.summary.specs.Table.{unreached, Exact}
use Rattle.summary.proofs.Numbers.{gone_number}
use Rattle.run.specs.Exits.{place, exit_at}
use Rattle.run.specs.Filled.{Filled}
use Rattle.run.specs.Plan.{ends_in, Planned}
use Rattle.run.specs.declared.plan.Plan.{Plan}

-- A table for a top has its destinations.
known_top : (top : Top) → Known top top
known_top None = any
known_top (Some s) = named

module _ {t : Thread} {top : Top} {id : ThreadId} {table exits : List ℕ} {plan : Plan} {last to : ℕ} (planned : Planned t id plan)
    (sums : Summed t top plan.states plan.n (ends_in plan) table) (low : last < plan.states) (is : to ≡ stays_of top + last)
    (filled : Filled table plan to exits) where
  -- A control has a place.
  place_low : (c : Control) → InTable plan.controls plan.n c → place c < 24
  place_low c p = omega (arith, p.passed, p.number, plan.in_range.most, plan.in_range.two)

  -- An entry of the table is exact.
  exact : (c : Control) (γ : ℕ) (d : End Control) → InTable plan.controls plan.n c → γ ≤ 16 → EndInTable top plan.controls plan.n d
      → Exact (Moves t (turn_of id)) (Switches (ends_in plan) plan.n) c γ d (entry plan.controls (ends_in plan) table c γ d)
  exact =
      let At : ℕ → Type 0 = λ k. (c : Control) (γ : ℕ) (d : End Control) → InTable k plan.n c → γ ≤ 16 → EndInTable top k plan.n d
      → Exact (Moves t (turn_of id)) (Switches (ends_in plan) plan.n) c γ d (entry k (ends_in plan) table c γ d) in
      subst At (sym planned.controls) (sums.exact (turn_of id))

  -- The symbol is gone at a control.
  pub filled_gone : (c q : Control) (γ : ℕ) → InTable plan.controls plan.n c → InTable plan.controls plan.n q → γ ≤ 16
      → Exact (Moves t (turn_of id)) (Switches (ends_in plan) plan.n) c γ (pop q) (exit_at exits (place c) γ (place q))
  filled_gone c q γ p i l =
      let h = filled.done (place c) γ (place q) l (omega (arith, place_low q i)) (omega (arith, place_low c p, place_low q i)) in
      let same : exit_at exits (place c) γ (place q) ≡ entry plan.controls (ends_in plan) table c γ (pop q) =
      elim (dec_le c.passed q.passed) [
        | yes k ↦
            rw (le-leb c.passed q.passed k, ← gone_number q i.shared)
            (h.gone c.passed (number c) q.passed (number q) p.passed p.number k i.passed i.number refl refl)
        | no k ↦
            rw (lt-leb c.passed q.passed (omega arith))
            (h.early c.passed (number c) q.passed (number q) p.passed p.number (omega arith) i.number refl refl)
      ] in
      subst (Exact (Moves t (turn_of id)) (Switches (ends_in plan) plan.n) c γ (pop q)) (sym same) (exact c γ (pop q) p l (i, tt))

  -- Something stands in its place at the end.
  pub filled_stays : (c : Control) (γ : ℕ) → InTable plan.controls plan.n c → γ ≤ 16
      → Exact (Moves t (turn_of id)) (Switches (ends_in plan) plan.n) c γ (stay top (control plan.n last)) (exit_at exits (place c) γ 24)
  filled_stays c γ p l =
      let h = filled.done (place c) γ 24 l (omega arith) (omega (arith, place_low c p)) in
      let same : exit_at exits (place c) γ 24 ≡ entry plan.controls (ends_in plan) table c γ (stay top (control plan.n last)) =
      rw (le-leb c.passed plan.n p.passed, ← is) (h.stays c.passed (number c) p.passed p.number refl refl) in
      let end : InTable plan.controls plan.n (control plan.n last) =
      record { passed = le_refl plan.n; shared = omega (arith, plan.in_range.four); number = omega (arith, plan.in_range.some) } in
      subst (Exact (Moves t (turn_of id)) (Switches (ends_in plan) plan.n) c γ (stay top (control plan.n last))) (sym same)
      (exact c γ (stay top (control plan.n last)) p l (end, record { known = known_top top; free = refl }))

  -- A place that no control has is never reached.
  pub filled_none : (x γ y : ℕ) → x < 24 → γ ≤ 16 → y < 24 → (y % 8 < plan.controls → y / 8 ≤ plan.n → ⊥) → unreached ≤ exit_at exits x γ y
  filled_none x γ y a b c h = (filled.done x γ y b (omega arith) (omega arith)).none c h
