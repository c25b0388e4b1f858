-- Two models made one: the rules of each union ascend, are in range, and are those of either thread, so their symbols are below the count
-- that both have; where none clashes each is held as it was, so both threads are parts of the one that was made.
use mathlib.Core.Bool.{false}
use mathlib.Core.List.{map}
use mathlib.Core.Logic.{◌⊎◌, inl, inr}
use mathlib.Core.Path.{◌≡◌, refl, sym, ap, ◌∙◌}
use Prim.Native.Nat.{ℕ, suc, ◌-◌, ◌≤◌, ◌<◌}
use native.Mathlib.Omega.{arith}
use lib.Dec.{T}
use lib.ListN.{length, replicate, length-map, get_or-eq_default}
use lib.Seq.{drop_at}
use Rattle.model.specs.declared.Model.{Model}
use Rattle.model.specs.declared.Thread.{Thread}
use Rattle.std.specs.Prelude.{None}
use Rattle.std.specs.Prelude as option
use Rattle.model.specs.Tops.{Top}
use Rattle.model.specs.Fits.{RightBelow, RuleFits, ThreadFits}
use Rattle.model.specs.Results.{first_of}
use Rattle.model.specs.Rules.{zero_rule, rule_at}
use Rattle.model.specs.UpToOrder.{RuleOf}
use Rattle.model.specs.Zero.{Unused}
use Rattle.model.proofs.Keys.{one_key}
use Rattle.model.proofs.Ranges.{checks, valid_fits}
use Rattle.model.proofs.Tests.{negated, equal, tests}
use Rattle.merge.specs.Answer.{same_top, same_fields, same_head, parts_fault, clash_fault, size_fault, merge_fault}
use Rattle.merge.specs.Answer.{thread_with, made_one, OfEither, MadeOf}
use Rattle.merge.specs.Joining.{Listed}
use Rattle.merge.specs.Parts.{StandsIn, ThreadPart, Part}
use Rattle.merge.specs.Union.{union_of, clash}
use Rattle.merge.proofs.Ascending.{Ascends, listed, join_ascends, entries_ascend}
use Rattle.merge.proofs.Carried.{carries}
use Rattle.merge.proofs.Inserted.{All}
use Rattle.merge.proofs.Members.{Some, StandsAs, union_all, union_left, union_right}
use Rattle.merge.proofs.Placed.{entry_at, all-at, some_at, next_above, rule_at_lem, held_at_lem}

-- Two threads made one: the thread is in range, both are parts of it, it has no other rule, and its unused places are zero.
pub record ThreadMade (g : ℕ) (t u whole : Thread) : Type 0 where
  pub fits : ThreadFits g whole
  pub first : ThreadPart t whole
  pub second : ThreadPart u whole
  pub rules : OfEither t u whole
  pub unused : Unused whole

-- The head fields of two threads are equal.
record SameFields (t u : Thread) : Type 0 where
  symbols : t.symbols ≡ u.symbols
  first : t.first ≡ u.first
  top : t.top ≡ u.top

module _ (t u : Thread) where
  -- The union ascends ..
  pub union_ascends : Listed u → Ascends (union_of t u)
  union_ascends h = join_ascends _ _ (entries_ascend u h 0 u.count (omega arith))

  -- .. and each of its rules is one of either thread ..
  all_of : All (λ e. RuleOf t e.rule ⊎ RuleOf u e.rule) (union_of t u)
  all_of =
      union_all t u _ (λ x y e p q. p)
      (λ r h. inl (record { number = r; listed = h; is = refl }))
      (λ r h. inr (record { number = r; listed = h; is = refl }))

module _ {g : ℕ} (t u : Thread) (low : g ≤ 16) (f : ThreadFits g t) (k : ThreadFits g u) where
  -- .. in range ..
  all_fit : All (λ e. RuleFits g e.rule) (union_of t u)
  all_fit = union_all t u _ (λ x y e p q. p) f.rules k.rules

  -- .. and with symbols below the count of both.
  all-below : t.symbols ≡ u.symbols
      → All (λ e. (e.rule.symbol.0 < t.symbols) × RightBelow t.symbols e.rule.right) (union_of t u)
  all-below s =
      union_all t u _ (λ x y e p q. p)
      (λ r h. (f.below.before r h, f.below.new r h))
      (λ r h. rw s (k.below.before r h, k.below.new r h))

  module _ (c : clash (union_of t u) ≡ false) (room : length (union_of t u) ≤ 64) where
    -- A rule that stands in the union stands in the thread that is made of it: rules in range with one key are the same.
    stands : (v : Thread) (r : ℕ) → RuleFits g (rule_at v r) → Some (StandsAs v r) (union_of t u)
        → StandsIn (thread_with t (union_of t u)) v r
    stands v r fit s =
        let z = some_at s in
        let e = entry_at (union_of t u) z.0 in
        record {
          number = z.0;
          listed = z.1;
          rule = rule_at_lem t (union_of t u) z.0 z.1 ∙ one_key g e.rule (rule_at v r) low (all-at all_fit z.0 z.1) fit z.2.key;
          held = held_at_lem t (union_of t u) z.0 (omega (arith, z.1)) ∙ z.2.held;
        }

    -- The thread that is made of both.
    thread_made : SameFields t u → ThreadMade g t u (thread_with t (union_of t u))
    thread_made s =
        let es = union_of t u in
        let size = length-map es (λ e. e.rule) in
        let at : (r : ℕ) → r < length es → rule_at (thread_with t es) r ≡ (entry_at es r).rule = rule_at_lem t es in
        let below = all-at (all-below s.symbols) in
        record {
          fits = record {
            symbols = f.symbols;
            first = f.first;
            top = f.top;
            count = room;
            rules = λ r h. rw (at r h) (all-at all_fit r h);
            order = λ r h. rw (at r (omega arith), at (suc r) h) (next_above es (union_ascends t u (listed k)) r h);
            free = λ r h b. held_at_lem t es r b ∙ ap (λ e. e.held) (get_or-eq_default es _ h);
            below = record {
              first = f.below.first;
              top = f.below.top;
              before = λ r h. rw (at r h) (below r h).0;
              new = λ r h. rw (at r h) (below r h).1;
            };
          };
          first = record { symbols = refl; first = refl; top = refl; rules = λ r h. stands t r (f.rules r h) (union_left t u c r h) };
          second = record {
            symbols = sym s.symbols;
            first = sym s.first;
            top = sym s.top;
            rules = λ r h. stands u r (k.rules r h) (union_right t u c r h);
          };
          rules = λ r h. rw (at r h) (all-at (all_of t u) r h);
          unused = drop_at (map (λ e. e.rule) es) _ (length es) size ∙ ap (λ n. replicate (64 - n) zero_rule) size;
        }

-- What tests of equal tops and equal head fields say.
same_top_lem : (x y : Top) → T (same_top x y) → x ≡ y
unfolding same_top
same_top_lem None None h = refl
same_top_lem None (option.Some s) h = absurd h
same_top_lem (option.Some s) None h = absurd h
same_top_lem (option.Some s) (option.Some t) h = let e = (equal s.0 t.0).0 h in ap (λ n. option.Some (record { 0 = n })) e

same_fields_lem : (t u : Thread) → T (same_fields t u) → SameFields t u
unfolding same_fields
same_fields_lem t u h =
    let z = simp tests at h in
    record { symbols = z.0.0; first = ap (λ n. record { 0 = n }) z.0.1; top = same_top_lem t.top u.top z.1 }

-- Two models that get no refusal are made one.
pub made : (m n : Model) → merge_fault m n ≡ 0 → MadeOf m n (made_one m n)
unfolding merge_fault parts_fault same_head clash_fault size_fault first_of
made m n h =
    let z = simp (checks, negated) at h in
    let head = z.0.1.1.0 in
    let calm = z.1.0 in
    let room = z.1.1.0 in
    let f = (valid_fits m).0 z.0.0 in
    let k = (valid_fits n).0 z.0.1.0 in
    let fields_a = same_fields_lem m.a n.a head.0.1 in
    let fields_b = same_fields_lem m.b n.b head.1 in
    let g : m.g ≡ n.g = head.0.0.0.0.0 in
    let start : m.start ≡ n.start = ap (λ s. record { 0 = s }) head.0.0.0.1 in
    let target : m.target ≡ n.target = ap (λ s. record { 0 = s }) head.0.0.1 in
    let a = thread_made m.a n.a (omega (arith, f.g)) f.a (rw g k.a) calm.0 room.0 fields_a in
    let b = thread_made m.b n.b (omega (arith, f.g)) f.b (rw g k.b) calm.1.0 room.1.0 fields_b in
    let first : Part m (made_one m n) =
    record { g = refl; k = refl; start = refl; target = refl; a = a.first; b = b.first } in
    let second : Part n (made_one m n) =
    record { g = sym g; k = sym head.0.0.0.0.1; start = sym start; target = sym target; a = a.second; b = b.second } in
    record {
      valid = (valid_fits (made_one m n)).1 (record { g = f.g; k = f.k; start = f.start; target = f.target; a = a.fits; b = b.fits });
      first = first;
      second = second;
      rules_a = a.rules;
      rules_b = b.rules;
      unused_a = a.unused;
      unused_b = b.unused;
      carries_first = carries first;
      carries_second = carries second;
    }
