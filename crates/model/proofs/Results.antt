-- Results read backwards: what was accepted has passed each check on its way, and each of its parts was accepted.
use mathlib.Core.Bool.{Bool, true, false}
use mathlib.Core.List.{List}
use mathlib.Core.Path.{◌≡◌, refl}
use Prim.Native.Nat.{ℕ, zero, suc}
use native.Mathlib.Omega.{arith}
use lib.Dec.{T}
use Rattle.model.specs.Results.{Result, refused, accepted, and_then, need, unless, store_by}

-- What is refused is not accepted.
pub apart : {A X : Type 0} {n : ℕ} {a : A} → refused n ≡ accepted a → X
apart {A} {X} {n} {a} e = let z : ◌≡◌ {A = ℕ} 0 1 = cc in absurd (omega arith)

-- Two results that agree have accepted one value.
pub accepted_same : {A : Type 0} {a b : A} → accepted a ≡ accepted b → a ≡ b
accepted_same {A} {a} {b} e = cc

-- What was accepted past a check has passed it.
pub checked : {A P : Type 0} (n : ℕ) (test : Bool) {r : Result A} {a : A} → need n test r ≡ accepted a
    → (T test → r ≡ accepted a → P) → P
checked n true e k = k tt e
checked n false e k = apart e

-- What was accepted in two parts was accepted in each.
pub through : {A B : Type 0} (r : Result A) (next : A → Result B) {b : B} → and_then r next ≡ accepted b
    → (a : A) × (r ≡ accepted a) × (next a ≡ accepted b)
through (refused n) next e = apart e
through (accepted a) next e = (a, refl, e)

-- A refusal that is due is the answer, whatever comes after it ..
pub due : {A : Type 0} {n : ℕ} (r : Result A) → (n ≡ 0 → ⊥) → refused n ≡ unless n r
due {n = n} r h = go n h
  where
    go : (k : ℕ) → (k ≡ 0 → ⊥) → refused k ≡ unless k r
    go zero p = absurd (p refl)
    go (suc k) p = refl

-- .. and where something was accepted no refusal was due.
pub undue : {A : Type 0} (n : ℕ) {r : Result A} {a : A} → unless n r ≡ accepted a → (n ≡ 0) × (r ≡ accepted a)
undue zero e = (refl, e)
undue (suc n) e = apart e

-- A refusal that is due leaves the store as it was.
pub kept : (n : ℕ) (bytes store : List ℕ) → (n ≡ 0 → ⊥) → store ≡ store_by n bytes store
kept zero bytes store h = absurd (h refl)
kept (suc n) bytes store h = refl
