-- Symbols checked rule by rule: the fault of the rules from a place on is that of the rule there or else of those after it, and places
-- beyond the last hold the symbol 0 alone, which every count allows. What refuses them is 17, and 11 for marks.
use mathlib.Core.List.{[], ◌∷◌}
use mathlib.Core.Path.{◌≡◌}
use Prim.Native.Nat.{ℕ, zero, suc, ◌+◌, ◌-◌, ◌≤◌, ◌<◌}
use native.Mathlib.Numerals.{add-one}
use native.Mathlib.Omega.{arith}
use lib.Dec.{ltb}
use lib.ListN.{length, get_or-eq_default}
use Rattle.model.specs.declared.Model.{Model}
use Rattle.model.specs.declared.Right.{Right}
use Rattle.model.specs.declared.Right.TheVariants.{Remove, Swap, Push}
use Rattle.model.specs.declared.Symbol.{Symbol}
use Rattle.model.specs.declared.Thread.{Thread}
use Rattle.model.specs.Tops.{Top}
use Rattle.std.specs.Prelude.{None, Some}
use Rattle.model.specs.Results.{first_of}
use Rattle.model.specs.Rules.{rule_at, zero_rule}
use Rattle.model.specs.Valid.{symbol_fault, top_fault, right_fault, free_from, mark_fault, marks_fault, used_fault, symbols_fault, cross_fault}
use Rattle.model.proofs.Checks.{of_first, of_none, of_test}
use Rattle.model.proofs.Ranges.{used}

-- The fault of the rules from number r up to the last.
abbrev pub used_on : Thread → ℕ → ℕ
used_on t r = used_fault t.symbols t r (t.count - r)

pub from_start : (t : Thread) → used_on t 0 ≡ used_fault t.symbols t 0 t.count
from_start t = let all : t.count - 0 ≡ t.count = omega arith in rw all

module _ (t : Thread) {r : ℕ} (h : r < t.count) where
  -- The rule there is looked at first: the symbol before, then the new ones; else those after it decide.
  pub split : used_on t r
      ≡ first_of (symbol_fault 17 t.symbols (rule_at t r).symbol ∷ right_fault 17 t.symbols (rule_at t r).right ∷ used_on t (r + 1) ∷ [])
  unfolding used_fault
  split = let cut : t.count - r ≡ suc (t.count - suc r) = omega arith in rw (cut, add-one)

-- Past the last rule there is no fault left to find ..
pub runs_out : (t : Thread) {r : ℕ} → t.count ≤ r → 0 ≡ used_on t r
unfolding used_fault
runs_out t {r} h = let none_left : t.count - r ≡ 0 = omega arith in rw none_left

-- .. and none past the last place, where a count is above 64.
pub no_place : (t : Thread) {r : ℕ} → length t.rules ≡ 64 → 0 < t.symbols → 64 ≤ r → used_on t r ≡ 0
no_place t {r} size some h =
    (used t.symbols t (t.count - r) r).1 λ i a b.
    let none : rule_at t i ≡ zero_rule = get_or-eq_default t.rules zero_rule {n = i} (omega arith) in rw none (some, tt)

-- What holds of 0, for no fault, and of the number by which symbols are refused, holds of their fault: of one, ..
module _ (P : ℕ → Type 0) (none : P 0) where
  of_symbol : {n : ℕ} → P n → (limit : ℕ) (s : Symbol) → P (symbol_fault n limit s)
  unfolding symbol_fault
  of_symbol p limit s = of_test P none p (ltb s.0 limit)

  of_top : {n : ℕ} → P n → (limit : ℕ) (x : Top) → P (top_fault n limit x)
  unfolding top_fault
  of_top p limit None = none
  of_top p limit (Some s) = of_symbol p limit s

  of_right : {n : ℕ} → P n → (limit : ℕ) (x : Right) → P (right_fault n limit x)
  unfolding right_fault
  of_right p limit Remove = none
  of_right p limit (Swap a) = of_symbol p limit a
  of_right p limit (Push a b) = of_first P _ (of_symbol p limit a) (of_first P _ (of_symbol p limit b) (of_none P none))

  -- .. of those of rules, ..
  of_used : P 17 → (t : Thread) (n r : ℕ) → P (used_fault t.symbols t r n)
  unfolding used_fault
  of_used p t zero r = none
  of_used p t (suc n) r =
      of_first P _ (of_symbol p t.symbols (rule_at t r).symbol)
      (of_first P _ (of_right p t.symbols (rule_at t r).right) (of_first P _ (of_used p t n (suc r)) (of_none P none)))

  -- .. of all of a thread, ..
  of_symbols : P 17 → (t : Thread) → P (symbols_fault t)
  unfolding symbols_fault
  of_symbols p t =
      of_first P _ (of_symbol p t.symbols t.first)
      (of_first P _ (of_top p t.symbols t.top) (of_first P _ (of_used p t t.count 0) (of_none P none)))

  -- .. and with that of the marks of what the parts of a model ask of each other: it is refused by 11 and 17 alone.
  of_marks : P 11 → (t : Thread) → P (mark_fault t.held t.count)
  unfolding mark_fault
  of_marks p t = of_test P none p (free_from t.held t.count (64 - t.count))

  pub of_cross : P 11 → P 17 → (m : Model) → P (cross_fault m)
  unfolding cross_fault marks_fault
  of_cross p q m =
      of_first P _ (of_first P _ (of_marks p m.a) (of_first P _ (of_marks p m.b) (of_none P none)))
      (of_first P _ (of_symbols q m.a) (of_first P _ (of_symbols q m.b) (of_none P none)))
