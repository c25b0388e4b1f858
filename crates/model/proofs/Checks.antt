-- Checks made in order: a fault is the answer, and a check that finds none leaves the answer to those after it.
use mathlib.Core.Bool.{Bool, true, false}
use mathlib.Core.List.{List, [], ◌∷◌, map}
use mathlib.Core.Logic.{◌↔◌}
use mathlib.Core.Path.{◌≡◌, refl, sym, ◌∙◌}
use Prim.Native.Nat.{ℕ, zero, suc}
use native.Mathlib.Omega.{arith}
use lib.Dec.{T}
use lib.ListN.{length, length-map}
use Rattle.model.specs.Results.{refuse, first_of}

-- A fault that is found is the answer, whatever is checked after it.
pub stops : {found n : ℕ} (ns : List ℕ) → found ≡ n → (found ≡ 0 → ⊥) → found ≡ first_of (n ∷ ns)
unfolding first_of
stops {found} {n} ns e h = rw (← e) (go found h)
  where
    go : (k : ℕ) → (k ≡ 0 → ⊥) → k ≡ first_of (k ∷ ns)
    go zero p = absurd (p refl)
    go (suc k) p = refl

-- A check that finds nothing leaves the answer to the ones after it.
pub passes : {found n r : ℕ} (ns : List ℕ) → found ≡ n → found ≡ 0 → r ≡ first_of ns → r ≡ first_of (n ∷ ns)
unfolding first_of
passes ns e z h = rw (← e, z) h

-- The last check is the answer.
pub closes : {r n : ℕ} → r ≡ n → r ≡ first_of (n ∷ [])
unfolding first_of
closes {r} {n} e = rw e (go n)
  where
    go : (k : ℕ) → k ≡ first_of (k ∷ [])
    go zero = refl
    go (suc k) = refl

-- What holds of each check's answer, and of 0 for none, holds of the first fault ..
pub of_first : (P : ℕ → Type 0) {n : ℕ} (ns : List ℕ) → P n → P (first_of ns) → P (first_of (n ∷ ns))
unfolding first_of
of_first P {n} ns = go n
  where
    go : (k : ℕ) → P k → P (first_of ns) → P (first_of (k ∷ ns))
    go zero p q = q
    go (suc k) p q = p

pub of_none : (P : ℕ → Type 0) → P 0 → P (first_of [])
unfolding first_of
of_none P z = z

-- .. where a test answers its number or 0.
pub of_test : (P : ℕ → Type 0) {n : ℕ} → P 0 → P n → (test : Bool) → P (refuse n test)
of_test P z p true = z
of_test P z p false = p

-- Of a check and then a test, nothing is refused exactly if the check finds nothing and the test passes.
pub both_pass : (fault n : ℕ) (test : Bool) → (first_of (fault ∷ refuse (suc n) test ∷ []) ≡ 0) ↔ ((fault ≡ 0) × T test)
unfolding first_of
both_pass zero n true = (λ h. (refl, tt), λ h. refl)
both_pass zero n false = (λ h. absurd (omega arith), λ h. absurd h.1)
both_pass (suc fault) n test = (λ h. absurd (omega arith), λ h. absurd (omega (arith, h.0)))

-- A list is as long as its image.
pub length_mapped : {X Y : Type 0} (f : X → Y) (l : List X) (n : ℕ) → length (map f l) ≡ n → length l ≡ n
length_mapped f l n h = sym (length-map l f) ∙ h
