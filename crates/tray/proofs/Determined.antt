-- The answer of `first` and the bytes of the rest stand in equations. The rest ends where the tray does, so its length says where it starts.
use mathlib.Core.List.{List}
use mathlib.Core.Path.{◌≡◌, sym, ap, ◌∙◌}
use Prim.Native.Nat.{ℕ}
use native.Mathlib.Omega.{arith}
use contract.Lifetimes.{Lfts}
use denote.Ref.{Bor}
use lib.ListN.{length}
use Rattle.std.specs.Prelude.{Option, Result}
use Rattle.model.specs.declared.refusal.Refusal.{Refusal}
use Rattle.model.proofs.Refusals.{told_names}
use Rattle.record.specs.declared.Front.{Front}
use Rattle.tray.proofs.first.Reads as first
use Rattle.tray.proofs.rest.Reads as rest

-- Each contract is `Post`, of the arguments, the answer and the arguments at exit. Two results that meet it are the same: it determines ..

-- .. the answer of `first` with its model, ..
pub first_determined : (κs : Lfts 1) (tray : Bor (List ℕ)) (r s : Result (Option Front) Refusal)
    → first.Post κs (tray, tt) r (tray, tt) → first.Post κs (tray, tt) s (tray, tt) → r ≡ s
first_determined κs tray r s p q = told_names r s (p.0 ∙ sym q.0)

-- .. and the slice that `rest` answers: where it starts, block and offset, and the bytes it has.
pub rest_determined : (κs : Lfts 1) (tray r s : Bor (List ℕ))
    → rest.Post κs (tray, tt) r (tray, tt) → rest.Post κs (tray, tt) s (tray, tt) → (r.ref_ptr ≡ s.ref_ptr) × (r.now ≡ s.now)
rest_determined κs tray r s p q =
    let same : r.now ≡ s.now = p.0 ∙ sym q.0 in
    let block : r.ref_ptr.0 ≡ s.ref_ptr.0 = p.1.block ∙ sym q.1.block in
    let start : r.ref_ptr.1 ≡ s.ref_ptr.1 = omega (arith, ap length same, p.1.end, q.1.end) in
    (λ i. (block i, start i), same)
