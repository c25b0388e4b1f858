-- A run of a valid model stays within its states, since a rule that applies leads to a state below G: so each marked line
-- that is short enough has a place in the line table.
use mathlib.Core.Bool.{Bool}
use mathlib.Core.List.{List}
use mathlib.Core.Logic.{◌↔◌}
use mathlib.Core.Path.{◌≡◌}
use Prim.Native.Nat.{ℕ, ◌*◌, ◌≤◌, ◌<◌}
use lib.Dec.{T}
use lib.ListN.{length}
use Rattle.model.specs.declared.Model.{Model}
use Rattle.model.specs.declared.Thread.{Thread}
use Rattle.model.specs.Lines.{States, Line}
use Rattle.model.specs.Rules.{rule_at, applies}
use Rattle.model.specs.Runs.{Turns, stop, end, move, Marked}
use Rattle.model.specs.Valid.{Valid}
use Rattle.model.specs.declared.ThreadId.{ThreadId}
use Rattle.model.specs.declared.ThreadId.TheVariants.{A, B}
use Rattle.model.specs.Walk.{owner_of, thread_of, Stacks, Step}
use Rattle.model.specs.Fits.{ThreadFits, Fits}
use Rattle.model.proofs.Ranges.{valid_fits}
use Rattle.model.proofs.Tests.{tests}

-- What a rule that applies meets.
pub record Applies (t : Thread) (r shared top : ℕ) : Type 0 where
  pub listed : r < t.count
  pub state : (rule_at t r).before.0 ≡ shared
  pub symbol : (rule_at t r).symbol.0 ≡ top

-- A rule applies exactly if it is in the list and its before pair is what is there.
pub applies_iff : (t : Thread) (r shared top : ℕ) → T (applies t r shared top) ↔ Applies t r shared top
unfolding applies
applies_iff t r g top = (
  λ h. let z = simp tests at h in record { listed = z.0.0; state = z.0.1; symbol = z.1 },
  λ a. simp tests ((a.listed, a.state), a.symbol),
)

-- Both threads of a model in range are in range.
pub fits_of : {m : Model} → Fits m → (i : ThreadId) → ThreadFits m.g (thread_of i m)
fits_of f A = f.a
fits_of f B = f.b

-- The line of a run has only states below G.
pub inside : {m : Model} → Valid m → {t g : ℕ} {held : Bool} {σ τ : Stacks} {line : List ℕ} {ss : List Step}
    → g < m.g → Turns m t held g σ line ss τ → States m.g line
inside v h stop = tt
inside v h (end r) = (h, inside v h r)
inside {m} v {t = t} {g = g} h (move {r = r} {top = top} e p rest) =
    let f = fits_of ((valid_fits m).0 v) (owner_of t) in
    inside v (f.rules r ((applies_iff (thread_of (owner_of t) m) r g top).0 p).listed).next rest

-- A marked line of one to 2K states is a line of the table.
pub marked_line : {m : Model} → Valid m → {line : List ℕ} → 0 < length line → length line ≤ 2 * m.k
    → Marked m line → Line m.g m.k line
marked_line {m} v h k r = record { some = h; most = k; states = inside v ((valid_fits m).0 v).start r.2 }
