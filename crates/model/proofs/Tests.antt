-- Tests read as facts: a test that is computed passes exactly if what it tests holds.
use mathlib.Core.Bool.{Bool, true, false, not, ◌&&◌}
use mathlib.Core.Logic.{◌↔◌}
use mathlib.Core.Path.{◌≡◌, refl, sym, subst}
use Prim.Native.Nat.{ℕ, zero, suc, ◌+◌, ◌≤◌, ◌<◌}
use native.Mathlib.Decide.{dec_lt}
use native.Mathlib.Nat.{le_antisymm}
use native.Mathlib.Omega.{arith}
use borrow.Author.Rules.{rules}
use borrow.Author.Tests.{le-leb, lt-leb, le-ltb, lt-ltb}
use lib.Dec.{T, leb, eqb, leb→le, le→leb, eqb→eq, eqb_refl}

-- A test that passes is true.
pub passed : (b : Bool) → T b → b ≡ true
passed true t = refl
passed false t = absurd t

-- A test that does not pass is false.
pub failed : (b : Bool) → (T b → ⊥) → b ≡ false
failed true h = absurd (h tt)
failed false h = refl

-- Two tests of the same fact agree.
pub agree : {P : Type 0} (a b : Bool) → T a ↔ P → T b ↔ P → a ≡ b
agree true b f g = sym (passed b (g.1 (f.0 tt)))
agree false b f g = sym (failed b (λ t. f.1 (g.0 t)))

-- A test of two parts passes exactly if both do.
pub both : (a b : Bool) → T (a && b) ↔ (T a × T b)
both true b = (λ h. (tt, h), λ h. h.1)
both false b = (λ h. absurd h, λ h. h.0)

-- The negation of a test passes exactly if the test is false.
pub negated : (b : Bool) → T (not b) ↔ (b ≡ false)
negated true = (λ h. absurd h, λ e. subst T e tt)
negated false = (λ h. refl, λ e. tt)

-- An order, and a strict one, `ltb a b` being `leb (suc a) b`.
pub order : (a b : ℕ) → T (leb a b) ↔ (a ≤ b)
order a b = (leb→le a b, le→leb a b)

-- An equation of numbers.
pub equal : (a b : ℕ) → T (eqb a b) ↔ (a ≡ b)
equal a b = (eqb→eq a b, λ e. subst (λ n. T (eqb a n)) e (eqb_refl a))

-- What is said of n numbers from r on by recursion holds exactly if it holds of each of them.
pub each_from : (P : ℕ → ℕ → Type 0) (Q : ℕ → Type 0) → ((r : ℕ) → P r 0) → ((r n : ℕ) → P r (suc n) ↔ (Q r × P (suc r) n))
    → (n r : ℕ) → P r n ↔ ((i : ℕ) → r ≤ i → i < r + n → Q i)
each_from P Q none step zero r = (λ h i a b. absurd (omega arith), λ h. none r)
each_from P Q none step (suc n) r =
    let rest = each_from P Q none step n (suc r) in (
      λ h i a b.
          let z = (step r n).0 h in
          elim (dec_lt r i) [
            | yes l ↦ rest.0 z.1 i l (omega arith)
            | no l ↦ subst Q (le_antisymm a (omega arith)) z.0
          ],
      λ h. (step r n).1 (h r (omega arith) (omega arith), rest.1 (λ i a b. h i (omega arith) (omega arith))),
    )

-- All of them, to rewrite a test by.
pub ruleset tests = (both, order, equal)

-- What decides a test from an order that is known, for a return that goes by tests.
pub ruleset decided = (le-leb, lt-leb, le-ltb, lt-ltb, rules)
