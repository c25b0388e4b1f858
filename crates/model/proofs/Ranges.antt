-- A valid model read as ranges: no fault among checks made in order is no fault in each, and a check that finds none is
-- its test passed.
use mathlib.Core.Bool.{Bool, true, false}
use mathlib.Core.List.{List, ◌∷◌}
use mathlib.Core.Logic.{◌↔◌}
use mathlib.Core.Path.{◌≡◌, refl}
use Prim.Native.Nat.{ℕ, zero, suc, ◌+◌, ◌-◌, ◌≤◌, ◌<◌}
use native.Mathlib.Omega.{arith}
use lib.Dec.{T, ltb}
use borrow.Author.Tests.{ltb-true}
use Rattle.model.specs.declared.Model.{Model}
use Rattle.model.specs.declared.Right.{Right}
use Rattle.model.specs.declared.Right.TheVariants.{Remove, Swap, Push}
use Rattle.model.specs.declared.Rule.{Rule}
use Rattle.model.specs.declared.Symbol.{Symbol}
use Rattle.model.specs.declared.Thread.{Thread}
use Rattle.model.specs.Tops.{Top}
use Rattle.std.specs.Prelude.{None, Some}
use Rattle.model.specs.Fits.{RightBelow, RuleFits, TopBelow, SymbolsBelow, ThreadFits, Fits}
use Rattle.model.specs.Order.{key_of, above}
use Rattle.model.specs.Results.{refuse, first_of}
use Rattle.model.specs.Rules.{rule_at, held_at}
use Rattle.model.proofs.Marks.{free}
use Rattle.model.proofs.Tests.{order, each_from, tests}
use Rattle.model.specs.Valid.{symbol_fault, top_fault, right_fault, range_fault, fields_fault, head_fault, rule_fault, rules_fault, thread_fault}
use Rattle.model.specs.Valid.{free_from, mark_fault, marks_fault, used_fault, symbols_fault, cross_fault, fault_of, Valid}

-- No fault of checks in order is no fault of the first and none of the others.
pub none : (n : ℕ) (ns : List ℕ) → (first_of (n ∷ ns) ≡ 0) ↔ ((n ≡ 0) × (first_of ns ≡ 0))
unfolding first_of
none zero ns = (λ h. (refl, h), λ h. h.1)
none (suc n) ns = (λ h. absurd (omega arith), λ h. h.0)

-- A check finds no fault exactly if its test passes.
pub passes : (n : ℕ) (test : Bool) → ltb 0 n ≡ true → (refuse n test ≡ 0) ↔ T test
passes n true e = (λ h. tt, λ h. refl)
passes n false e = (λ h. omega (arith, ltb-true), λ h. absurd h)

pub ruleset checks = (none, passes, tests)

-- Symbols that are checked one by one, by a number that is no 0.
module _ (n limit : ℕ) (some : ltb 0 n ≡ true) where
  pub symbol : (s : Symbol) → (symbol_fault n limit s ≡ 0) ↔ (s.0 < limit)
  unfolding symbol_fault
  symbol s = let t = passes n (ltb s.0 limit) some in let o = order (suc s.0) limit in (λ h. o.0 (t.0 h), λ f. t.1 (o.1 f))

  top : (x : Top) → (top_fault n limit x ≡ 0) ↔ TopBelow limit x
  unfolding top_fault
  top None = (λ h. tt, λ h. refl)
  top (Some s) = symbol s

  right : (x : Right) → (right_fault n limit x ≡ 0) ↔ RightBelow limit x
  unfolding right_fault first_of
  right Remove = (λ h. tt, λ h. refl)
  right (Swap a) = symbol a
  right (Push a b) = (
    λ h. let z = simp none at h in ((symbol a).0 z.0, (symbol b).0 z.1.0),
    λ f. simp none ((symbol a).1 f.0, ((symbol b).1 f.1, refl)),
  )

rule : (g : ℕ) (r : Rule) → (rule_fault g r ≡ 0) ↔ RuleFits g r
unfolding rule_fault first_of
rule g r = (
  λ h.
      let z = simp checks at h in
      let top = (symbol 4 16 refl r.symbol).0 z.1.0 in
      record { state = z.0; top = omega arith; next = z.1.1.0; symbols = (right 4 16 refl r.right).0 z.1.1.1.0 },
  λ f.
      let top = (symbol 4 16 refl r.symbol).1 (omega (arith, f.top)) in
      simp checks (f.state, (top, (f.next, ((right 4 16 refl r.right).1 f.symbols, refl)))),
)

-- No fault of n rules from number r on is none of each: it is in range and above the one before it.
rules : (g : ℕ) (t : Thread) (n r : ℕ)
    → (rules_fault g t r n ≡ 0) ↔ ((i : ℕ) → r ≤ i → i < r + n → RuleFits g (rule_at t i) × T (above t i))
unfolding rules_fault first_of
rules g t =
    each_from (λ r n. rules_fault g t r n ≡ 0) (λ i. RuleFits g (rule_at t i) × T (above t i)) (λ r. refl) λ r n. (
      λ h. let z = simp (none, passes, rule) at h in ((z.0, z.1.0), z.1.1.0),
      λ f. simp (none, passes, rule) (f.0.0, (f.0.1, (f.1, refl))),
    )

-- Each of n rules is above the one before it exactly if their keys ascend.
ascends : (t : Thread) (n : ℕ)
    → ((i : ℕ) → i < n → T (above t i)) ↔ ((r : ℕ) → suc r < n → key_of (rule_at t r) < key_of (rule_at t (suc r)))
unfolding above
ascends t n = (λ h r k. (order _ _).0 (h (suc r) k), back)
  where
    back : ((r : ℕ) → suc r < n → key_of (rule_at t r) < key_of (rule_at t (suc r))) → (i : ℕ) → i < n → T (above t i)
    back h zero k = tt
    back h (suc r) k = (order _ _).1 (h r k)

-- What is asked of a thread's count and rules.
record RulesFit (g : ℕ) (t : Thread) : Type 0 where
  count : t.count ≤ 64
  each : (r : ℕ) → r < t.count → RuleFits g (rule_at t r)
  order : (r : ℕ) → suc r < t.count → key_of (rule_at t r) < key_of (rule_at t (suc r))

thread : (g : ℕ) (t : Thread) → (thread_fault g t ≡ 0) ↔ RulesFit g t
unfolding thread_fault first_of
thread g t =
    let all = rules g t t.count 0 in (
      λ h.
          let z = simp checks at h in
          let each : (i : ℕ) → i < t.count → RuleFits g (rule_at t i) × T (above t i) = λ i k. all.0 z.1.0 i (omega arith) (omega arith) in
          record { count = z.0; each = λ r k. (each r k).0; order = (ascends t t.count).0 (λ i k. (each i k).1) },
      λ f.
          let up = (ascends t t.count).1 f.order in
          let none = all.1 (λ i a b. let k : i < t.count = omega arith in (f.each i k, up i k)) in
          simp checks (f.count, (none, refl)),
    )

-- No mark stands on a rule number that the list lacks.
abbrev pub Free : Thread → Type 0
Free t = (r : ℕ) → t.count ≤ r → r < 64 → held_at t r ≡ false

marks : (t : Thread) → t.count ≤ 64 → (mark_fault t.held t.count ≡ 0) ↔ Free t
unfolding mark_fault
marks t h =
    let all : t.count + (64 - t.count) ≡ 64 = omega arith in
    let each = rw all at (free t.held (64 - t.count) t.count) in
    let none = passes 11 (free_from t.held t.count (64 - t.count)) refl in
    (λ e. each.0 (none.0 e), λ f. none.1 (each.1 f))

-- The symbols of a rule are below a limit.
abbrev RuleBelow : ℕ → Thread → ℕ → Type 0
RuleBelow limit t r = ((rule_at t r).symbol.0 < limit) × RightBelow limit (rule_at t r).right

-- No fault of the symbols of n rules from number r on is none of each.
pub used : (limit : ℕ) (t : Thread) (n r : ℕ)
    → (used_fault limit t r n ≡ 0) ↔ ((i : ℕ) → r ≤ i → i < r + n → RuleBelow limit t i)
unfolding used_fault first_of
used limit t =
    each_from (λ r n. used_fault limit t r n ≡ 0) (RuleBelow limit t) (λ r. refl) λ r n.
    let before = symbol 17 limit refl (rule_at t r).symbol in
    let new = right 17 limit refl (rule_at t r).right in (
      λ h. let z = simp none at h in ((before.0 z.0, new.0 z.1.0), z.1.1.0),
      λ f. simp none (before.1 f.0.0, (new.1 f.0.1, (f.1, refl))),
    )

-- A thread's symbols are below its count.
pub symbols : (t : Thread) → (symbols_fault t ≡ 0) ↔ SymbolsBelow t.symbols t
unfolding symbols_fault first_of
symbols t =
    let first = symbol 17 t.symbols refl t.first in
    let named = top 17 t.symbols refl t.top in
    let all = used t.symbols t t.count 0 in (
      λ h.
          let z = simp none at h in
          let each : (i : ℕ) → i < t.count → RuleBelow t.symbols t i = λ i k. all.0 z.1.1.0 i (omega arith) (omega arith) in
          record { first = first.0 z.0; top = named.0 z.1.0; before = λ r k. (each r k).0; new = λ r k. (each r k).1 },
      λ f.
          let each = all.1 (λ i a b. let k : i < t.count = omega arith in (f.before i k, f.new i k)) in
          simp none (first.1 f.first, (named.1 f.top, (each, refl))),
    )

-- What the parts of a thread ask of each other.
abbrev pub Crossed : Thread → Type 0
Crossed t = Free t × SymbolsBelow t.symbols t

-- The same of both threads, where no list is too long.
pub crossed : (m : Model) → m.a.count ≤ 64 → m.b.count ≤ 64 → (cross_fault m ≡ 0) ↔ (Crossed m.a × Crossed m.b)
unfolding cross_fault marks_fault first_of
crossed m h k =
    let a = marks m.a h in
    let b = marks m.b k in
    let c = symbols m.a in
    let d = symbols m.b in (
      λ e. let z = simp none at e in ((a.0 z.0.0, c.0 z.1.0), (b.0 z.0.1.0, d.0 z.1.1.0)),
      λ f. simp none ((a.1 f.0.0, (b.1 f.1.0, refl)), (c.1 f.0.1, (d.1 f.1.1, refl))),
    )

-- The head fields of a thread in range.
record FieldsFit (t : Thread) : Type 0 where
  symbols : (1 ≤ t.symbols) × (t.symbols ≤ 16)
  top : TopBelow 16 t.top
  first : t.first.0 ≤ 15

fields : (t : Thread) → (fields_fault t ≡ 0) ↔ FieldsFit t
unfolding fields_fault first_of
fields t =
    let named = top 3 16 refl t.top in
    let first = symbol 3 16 refl t.first in (
      λ h.
          let z = simp checks at h in
          let low = first.0 z.1.1.0 in
          record { symbols = z.0; top = named.0 z.1.0; first = omega arith },
      λ f. simp checks (f.symbols, (named.1 f.top, (first.1 (omega (arith, f.first)), refl))),
    )

-- A thread whose parts are in range is.
whole : {g : ℕ} {t : Thread} → FieldsFit t → RulesFit g t → Crossed t → ThreadFits g t
whole f r c =
    record {
      symbols = f.symbols;
      first = f.first;
      top = f.top;
      count = r.count;
      rules = r.each;
      order = r.order;
      free = c.0;
      below = c.1;
    }

-- A model is valid exactly if every used place of it is in range and its rules ascend.
pub valid_fits : (m : Model) → Valid m ↔ Fits m
unfolding fault_of head_fault range_fault first_of
valid_fits m =
    let head_a = fields m.a in
    let head_b = fields m.b in (
      λ h.
          let z = simp checks at h in
          let range = z.0.0 in
          let head = z.0.1 in
          let a = (thread m.g m.a).0 z.1.0 in
          let b = (thread m.g m.b).0 z.1.1.0 in
          let cross = (crossed m a.count b.count).0 z.1.1.1.0 in
          record {
            g = range.0;
            k = range.1.0;
            start = range.1.1.0;
            target = range.1.1.1.0;
            a = whole (head_a.0 head.0) a cross.0;
            b = whole (head_b.0 head.1.0) b cross.1;
          },
      λ f.
          let fields_a = head_a.1 (record { symbols = f.a.symbols; top = f.a.top; first = f.a.first }) in
          let fields_b = head_b.1 (record { symbols = f.b.symbols; top = f.b.top; first = f.b.first }) in
          let a = (thread m.g m.a).1 (record { count = f.a.count; each = f.a.rules; order = f.a.order }) in
          let b = (thread m.g m.b).1 (record { count = f.b.count; each = f.b.rules; order = f.b.order }) in
          let cross = (crossed m f.a.count f.b.count).1 ((f.a.free, f.a.below), (f.b.free, f.b.below)) in
          simp checks (((f.g, (f.k, (f.start, (f.target, refl)))), (fields_a, (fields_b, refl))), (a, (b, (cross, refl)))),
    )
