-- Tests that a refusal goes by: one that is not refused passes, and one that is fails.
use mathlib.Core.Bool.{Bool, true, false}
use mathlib.Core.Path.{◌≡◌, refl}
use Prim.Native.Nat.{ℕ, suc, ◌≤◌}
use native.Mathlib.Omega.{arith}
use lib.Dec.{leb}
use Rattle.std.proofs.lemmas.Bool.{leb-true}
use Rattle.model.specs.Results.{refuse}

-- A test that is not refused passes ..
pub unrefused : (n : ℕ) (test : Bool) → 0 ≡ refuse (suc n) test → test ≡ true
unrefused n true e = refl
unrefused n false e = absurd (omega arith)

-- .. so an order that it tests holds ..
pub in_order : (n a b : ℕ) → 0 ≡ refuse (suc n) (leb a b) → a ≤ b
in_order n a b e = leb-true a b (unrefused n (leb a b) e)

-- .. and one that is refused fails.
pub refused_test : (n k : ℕ) (test : Bool) → (k ≡ 0 → ⊥) → k ≡ refuse n test → (k ≡ n) × (test ≡ false)
refused_test n k true h e = absurd (h e)
refused_test n k false h e = (e, refl)
