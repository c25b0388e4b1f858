-- What the call prints for a model that it does not refuse is the system that the model's runs are read off: such a model fits and has no
-- held rule, and its rules are listed exactly if they are allowed.
use mathlib.Core.Bool.{false}
use mathlib.Core.List.{List}
use mathlib.Core.Path.{◌≡◌, sym}
use Prim.Native.Nat.{ℕ}
use lib.Dec.{T}
use Rattle.model.specs.declared.Model.{Model}
use Rattle.model.specs.declared.Thread.{Thread}
use Rattle.model.specs.declared.ThreadId.TheVariants.{A, B}
use Rattle.model.specs.Bits.{all_zero}
use Rattle.model.specs.Fits.{Fits}
use Rattle.model.specs.Rules.{held_at}
use Rattle.model.specs.Valid.{fault_of}
use Rattle.model.proofs.Checks.{both_pass}
use Rattle.model.proofs.Marks.{no_bit}
use Rattle.model.proofs.Ranges.{valid_fits}
use Rattle.model.proofs.Tests.{both}
use Rattle.sequential.specs.Answer.{unnamed, plain_thread, plain, model_refusal}
use Rattle.sequential.specs.Listed.{Listed}
use Rattle.sequential.specs.Rounds.{Reduces}
use Rattle.sequential.specs.System.{State, StackRule, Run, stop, step}
use Rattle.sequential.proofs.Listing.{listed_allowed}
use Rattle.sequential.proofs.Phases.{Unheld}
use Rattle.sequential.proofs.Reduction.{reduces}

-- A model that is not refused is valid and plain ..
passed : (m : Model) → model_refusal m ≡ 0 → (fault_of m ≡ 0) × T (plain m)
unfolding model_refusal
passed m e = (both_pass (fault_of m) 20 (plain m)).0 e

-- .. so it fits ..
pub printable_fits : (m : Model) → 0 ≡ model_refusal m → Fits m
printable_fits m e = (valid_fits m).0 (passed m (sym e)).0

-- .. and no rule of it is held.
thread_unheld : (t : Thread) → T (plain_thread t) → (r : ℕ) → held_at t r ≡ false
unfolding plain_thread
thread_unheld t h r = no_bit t.held ((both (all_zero t.held) (unnamed t.top)).0 h).0 r

unheld : (m : Model) → T (plain m) → Unheld m
unfolding plain
unheld m h A r = thread_unheld m.a ((both (plain_thread m.a) (plain_thread m.b)).0 h).0 r
unheld m h B r = thread_unheld m.b ((both (plain_thread m.a) (plain_thread m.b)).0 h).1 r

-- A run by some rules is one by any that allow them.
run_by : {P Q : StackRule → Type 0} → ((r : StackRule) → P r → Q r) → {s t : State} {w v : List ℕ} → Run P s w t v → Run Q s w t v
run_by f stop = stop
run_by f (step p r) = step (f _ p) (run_by f r)

-- The reduction is right for the rules that are printed: the check symbol comes on top exactly for the runs of K rounds.
pub printed_reduces : (m : Model) → 0 ≡ model_refusal m → Reduces (Listed m) m
printed_reduces m e gs last =
    let f = printable_fits m e in
    let law = reduces m f (unheld m (passed m (sym e)).1) gs last in (
      λ h. law.0 (h.0, run_by (λ r p. (listed_allowed m f r).0 p) h.1),
      λ h. let back = law.1 h in (back.0, run_by (λ r p. (listed_allowed m f r).1 p) back.1),
    )
