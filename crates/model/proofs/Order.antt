-- Rules checked one after another: the least key that a rule may have is one above the key of the rule before it, and the fault of the rules
-- from a place on is that of the rule there or else of those after it.
use mathlib.Core.List.{[], ◌∷◌}
use mathlib.Core.Path.{◌≡◌, refl, sym}
use Prim.Native.Nat.{ℕ, zero, suc, ◌+◌, ◌-◌, ◌≤◌, ◌<◌, zero-le}
use native.Mathlib.Numerals.{add-one}
use native.Mathlib.Omega.{arith}
use lib.Dec.{leb}
use lib.ListN.{take, get_or}
use Rattle.std.proofs.lemmas.List.{get_or-take}
use borrow.Author.Tests.{le-leb}
use Rattle.model.specs.declared.Thread.{Thread}
use Rattle.model.specs.Order.{key_of, above}
use Rattle.model.specs.Results.{refuse, first_of}
use Rattle.model.specs.Rules.{rule_at, zero_rule}
use Rattle.model.specs.Valid.{rule_fault, rules_fault}

-- The least key that rule r may have.
abbrev pub least_at : Thread → ℕ → ℕ
least_at t zero = 0
least_at t (suc r) = suc (key_of (rule_at t r))

pub next_least : (t : Thread) (r : ℕ) {key : ℕ} → key ≡ key_of (rule_at t r) → key + 1 ≡ least_at t (r + 1)
next_least t r e = rw (e, add-one, add-one)

-- A rule is above the one before it exactly if its key is at least that.
at_least : (t : Thread) (r : ℕ) → above t r ≡ leb (least_at t r) (key_of (rule_at t r))
unfolding above
at_least t zero = sym (le-leb 0 (key_of (rule_at t 0)) zero-le)
at_least t (suc r) = refl

-- A rule of the first n is that of the thread.
pub among : (t : Thread) {n r : ℕ} (h : r < n) → get_or (take n t.rules) r zero_rule ≡ rule_at t r
among t {n} {r} h = get_or-take n t.rules r zero_rule h

-- The fault of the rules from number r up to n.
abbrev pub fault_on : ℕ → Thread → ℕ → ℕ → ℕ
fault_on g t r n = rules_fault g t r (n - r)

pub from_start : (g : ℕ) (t : Thread) (n : ℕ) → fault_on g t 0 n ≡ rules_fault g t 0 n
from_start g t n = let all : n - 0 ≡ n = omega arith in rw all

module _ (g : ℕ) (t : Thread) {r n : ℕ} (h : r < n) where
  -- The rule there is looked at first, its own fault and then its place; else those after it decide.
  pub split : fault_on g t r n
      ≡ first_of (rule_fault g (rule_at t r) ∷ refuse 13 (leb (least_at t r) (key_of (rule_at t r))) ∷ fault_on g t (r + 1) n ∷ [])
  unfolding rules_fault
  split = let cut : n - r ≡ suc (n - suc r) = omega arith in rw (cut, at_least t r, add-one)

-- Past the last rule there is no fault left to find.
pub runs_out : (g : ℕ) (t : Thread) {r n : ℕ} → n ≤ r → 0 ≡ fault_on g t r n
unfolding rules_fault
runs_out g t {r} {n} h = let none_left : n - r ≡ 0 = omega arith in rw none_left
