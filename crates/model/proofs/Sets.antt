-- Models that agree up to the order of their rules and are valid are the same. Keys rise, so the rule at a place is the least of those from
-- it on, and threads with the same set of rules have the same one at each place, by induction on it; and a rule has one number, so it has
-- the same mark.
use mathlib.Core.Bool.{Bool, true, false}
use mathlib.Core.Logic.{◌↔◌}
use mathlib.Core.Path.{◌≡◌, refl, sym, ap, ◌∙◌}
use Prim.Native.Nat.{ℕ, zero, suc, ◌≤◌, ◌<◌}
use native.Mathlib.Decide.{dec_lt}
use native.Mathlib.Omega.{arith}
use lib.ListN.{length}
use Rattle.model.specs.declared.Model.{Model}
use Rattle.model.specs.declared.Rule.{Rule}
use Rattle.model.specs.declared.Thread.{Thread}
use Rattle.model.specs.Bits.{Bytes}
use Rattle.model.specs.Fits.{ThreadFits}
use Rattle.model.specs.Order.{key_of}
use Rattle.model.specs.Rules.{rule_at, held_at}
use Rattle.model.specs.UpToOrder.{RuleOf, SameSet, UpToOrder, ByteMarks}
use Rattle.model.specs.Valid.{SameThread, Same, Valid, Places}
use Rattle.model.proofs.Bytes.{same_bytes}
use Rattle.model.proofs.Ranges.{valid_fits}

-- What rises from each place to the next rises ..
pub rising : (f : ℕ → ℕ) (n : ℕ) → ((r : ℕ) → suc r < n → f r < f (suc r)) → (r s : ℕ) → r < s → s < n → f r < f s
rising f n h r zero k l = absurd (omega arith)
rising f n h r (suc s) k l =
    let up = h s l in
    elim (dec_lt r s) [
      | yes j ↦ let low = rising f n h r s j (omega arith) in omega arith
      | no j ↦ let e : r ≡ s = omega arith in rw e up
    ]

-- .. and is the same at one place only.
pub one_place : (f : ℕ → ℕ) (n : ℕ) → ((r s : ℕ) → r < s → s < n → f r < f s) → (r s : ℕ) → r < n → s < n → f r ≡ f s → r ≡ s
one_place f n up r s h k e = elim (dec_lt r s) [
  | yes l ↦ let less = up r s l k in absurd (omega arith)
  | no l ↦ elim (dec_lt s r) [ yes j ↦ let less = up s r j h in absurd (omega arith) | no j ↦ omega arith ]
]

-- The keys of a thread rise.
abbrev pub Rising : Thread → Type 0
Rising t = (r s : ℕ) → r < s → s < t.count → key_of (rule_at t r) < key_of (rule_at t s)

pub thread_rises : {g : ℕ} (t : Thread) → ThreadFits g t → Rising t
thread_rises t f = rising (λ r. key_of (rule_at t r)) t.count f.order

-- So a rule has one number.
pub one_number : (t : Thread) → Rising t → (r s : ℕ) → r < t.count → s < t.count → rule_at t r ≡ rule_at t s → r ≡ s
one_number t up r s h k e = one_place (λ i. key_of (rule_at t i)) t.count up r s h k (ap key_of e)

module _ (t u : Thread) (up_t : Rising t) (up_u : Rising u) (set : (x : Rule) → RuleOf t x ↔ RuleOf u x) where
  -- What is to be had at a place of the one: the other has the same rule there.
  abbrev Agrees : ℕ → Type 0
  Agrees r = r < t.count → (r < u.count) × (rule_at t r ≡ rule_at u r)

  -- Where a rule of t has a greater number in u, the one that u has in its place would have no number in t.
  no_gap : (r s : ℕ) → ((q : ℕ) → q < r → Agrees q) → r < t.count → r < s → s < u.count → rule_at u s ≡ rule_at t r → ⊥
  no_gap r s before h k l e =
      let y = (set (rule_at u r)).1 (record { number = r; listed = omega arith; is = refl }) in
      let less = up_u r s k l in
      let key_x = ap key_of e in
      let key_y = ap key_of y.is in
      elim (dec_lt y.number r) [
        | yes j ↦
            let there = before y.number j y.listed in
            let twice = one_number u up_u y.number r there.0 (omega arith) (sym there.1 ∙ y.is) in omega arith
        | no j ↦
            elim (dec_lt r y.number) [
              | yes i ↦ let more = up_t r y.number i y.listed in omega arith
              | no i ↦ let at : y.number ≡ r = omega arith in let key = ap (λ n. key_of (rule_at t n)) at in omega arith
            ]
      ]

  -- The rule at place r, those before it being the same.
  agree_at : (r : ℕ) → ((q : ℕ) → q < r → Agrees q) → Agrees r
  agree_at r before h =
      let x = (set (rule_at t r)).0 (record { number = r; listed = h; is = refl }) in
      elim (dec_lt x.number r) [
        | yes k ↦
            let there = before x.number k (omega arith) in
            let twice = one_number t up_t x.number r (omega arith) h (there.1 ∙ x.is) in absurd (omega arith)
        | no k ↦
            elim (dec_lt r x.number) [
              | yes l ↦ absurd (no_gap r x.number before h l x.listed x.is)
              | no l ↦ let at : x.number ≡ r = omega arith in (rw at at x.listed, sym (rw at at x.is))
            ]
      ]

  -- So all are the same.
  agree : (n r : ℕ) → r < n → Agrees r
  agree zero r h = absurd (omega arith)
  agree (suc n) r h = elim (dec_lt r n) [
    | yes k ↦ agree n r k
    | no k ↦ let at : r ≡ n = omega arith in agree_at r (λ q l. agree n q (omega arith))
  ]

  at_each : (r : ℕ) → Agrees r
  at_each r = agree (suc r) r (omega arith)

  -- And u has as many at least.
  as_many : t.count ≤ u.count
  as_many = elim (dec_lt u.count t.count) [ yes h ↦ let k = (at_each u.count h).0 in absurd (omega arith) | no h ↦ omega arith ]

-- A rule that is held in the one is held at the same place of the other.
module _ {g : ℕ} (t u : Thread) (fit_t : ThreadFits g t) (fit_u : ThreadFits g u) (s : SameSet t u) where
  there : (r : ℕ) → Agrees t u (thread_rises t fit_t) (thread_rises u fit_u) s.rules r
  there = at_each t u (thread_rises t fit_t) (thread_rises u fit_u) s.rules

  held_there : (r : ℕ) → r < t.count → held_at t r ≡ true → held_at u r ≡ true
  held_there r h e =
      let same = there r h in
      let x = (s.held (rule_at t r)).0 (record { rule = record { number = r; listed = h; is = refl }; held = e }) in
      let at : x.rule.number ≡ r = one_number u (thread_rises u fit_u) x.rule.number r x.rule.listed same.0 (x.rule.is ∙ same.1) in
      rw at at x.held

-- The same set, seen from the other thread.
turned : {t u : Thread} → SameSet t u → SameSet u t
turned s =
    record {
      symbols = sym s.symbols;
      first = sym s.first;
      top = sym s.top;
      rules = λ x. ((s.rules x).1, (s.rules x).0);
      held = λ x. ((s.held x).1, (s.held x).0);
    }

-- Two flags of which each stands where the other does.
both_ways : (a b : Bool) → (a ≡ true → b ≡ true) → (b ≡ true → a ≡ true) → a ≡ b
both_ways true b h k = sym (h refl)
both_ways false true h k = k refl
both_ways false false h k = refl

-- Threads in range with the same set of rules are the same: the marks at the rules are, and beyond them none stands.
same_thread : {g : ℕ} (t u : Thread) → ThreadFits g t → ThreadFits g u → SameSet t u → length t.held ≡ 8 → length u.held ≡ 8
    → Bytes t.held → Bytes u.held → SameThread t u
same_thread t u f k s h l small small' =
    let back = turned s in
    let many = as_many t u (thread_rises t f) (thread_rises u k) s.rules in
    let many' = as_many u t (thread_rises u k) (thread_rises t f) back.rules in
    let count : t.count ≡ u.count = omega arith in
    let marks : (p : ℕ) → p < 64 → held_at t p ≡ held_at u p = λ p b.
    elim (dec_lt p t.count) [
      | yes i ↦ both_ways (held_at t p) (held_at u p) (held_there t u f k s p i) (held_there u t k f back p (omega arith))
      | no i ↦ f.free p (omega arith) b ∙ sym (k.free p (omega arith) b)
    ] in
    record {
      symbols = s.symbols;
      first = s.first;
      top = s.top;
      held = same_bytes t.held u.held h l small small' marks;
      count = count;
      rules = λ r i. (there t u f k s r i).1;
    }

-- Valid models that agree up to the order of their rules are the same.
pub one_order : {m n : Model} → UpToOrder m n → Valid m → Valid n → Places m → Places n → ByteMarks m → ByteMarks n → Same m n
one_order {m} {n} s v w p q x y =
    let f = (valid_fits m).0 v in
    let k = (valid_fits n).0 w in
    record {
      g = s.g;
      k = s.k;
      start = s.start;
      target = s.target;
      a = same_thread m.a n.a f.a (rw s.g k.a) s.a p.held_a q.held_a x.a y.a;
      b = same_thread m.b n.b f.b (rw s.g k.b) s.b p.held_b q.held_b x.b y.b;
    }
