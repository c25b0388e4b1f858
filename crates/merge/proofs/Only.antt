-- What a merged model must be leaves one model only: of two such each has the rules of the other, held as they are there, since these are
-- the rules of the models that were merged; and both are in order.
use mathlib.Core.Logic.{inl, inr}
use mathlib.Core.Path.{◌≡◌, sym, ap, ◌∙◌}
use Prim.Native.Nat.{ℕ, ◌<◌}
use Rattle.model.specs.declared.Model.{Model}
use Rattle.model.specs.declared.Rule.{Rule}
use Rattle.model.specs.declared.Thread.{Thread}
use Rattle.model.specs.Rules.{rule_at, held_at}
use Rattle.model.specs.UpToOrder.{RuleOf, HeldRuleOf, SameSet, UpToOrder, ByteMarks}
use Rattle.model.specs.Valid.{Same, Places}
use Rattle.model.proofs.Ranges.{valid_fits}
use Rattle.model.proofs.Sets.{Rising, thread_rises, one_number, one_order}
use Rattle.merge.specs.Answer.{MadeOf}
use Rattle.merge.specs.Parts.{StandsIn, ThreadPart}
use Rattle.merge.proofs.Made.{ThreadMade}

-- A rule of a thread that comes from a part of it stands in whatever that is a part of, held as it is: it has one number in the thread.
through : {v x y : Thread} → Rising x → ThreadPart v x → ThreadPart v y
    → (r : ℕ) → r < x.count → RuleOf v (rule_at x r) → StandsIn y x r
through {v} {x} {y} up p q r h o =
    let a = p.rules o.number o.listed in
    let b = q.rules o.number o.listed in
    let at : a.number ≡ r = one_number x up a.number r a.listed h (a.rule ∙ o.is) in
    record {
      number = b.number;
      listed = b.listed;
      rule = b.rule ∙ o.is;
      held = b.held ∙ (sym a.held ∙ ap (held_at x) at);
    }

-- So of two threads made of the same two each is a part of the other ..
part_of : {g h : ℕ} {t u x y : Thread} → ThreadMade g t u x → ThreadMade h t u y → ThreadPart x y
part_of {x = x} c d =
    let up = thread_rises x c.fits in
    record {
      symbols = sym c.first.symbols ∙ d.first.symbols;
      first = sym c.first.first ∙ d.first.first;
      top = sym c.first.top ∙ d.first.top;
      rules = λ r h. elim (c.rules r h) [
        | inl o ↦ through up c.first d.first r h o
        | inr o ↦ through up c.second d.second r h o
      ];
    }

-- .. and such threads have the same set of rules, with the same of them held.
same_set : {x y : Thread} → ThreadPart x y → ThreadPart y x → SameSet x y
same_set p q =
    record {
      symbols = p.symbols;
      first = p.first;
      top = p.top;
      rules = λ z. (rule p z, rule q z);
      held = λ z. (kept p z, kept q z);
    }
  where
    rule : {x y : Thread} → ThreadPart x y → (z : Rule) → RuleOf x z → RuleOf y z
    rule p z o = let a = p.rules o.number o.listed in record { number = a.number; listed = a.listed; is = a.rule ∙ o.is }

    kept : {x y : Thread} → ThreadPart x y → (z : Rule) → HeldRuleOf x z → HeldRuleOf y z
    kept p z o =
        record { rule = rule p z o.rule; held = (p.rules o.rule.number o.rule.listed).held ∙ o.held }

-- The threads of a model that was made.
module _ {m n x : Model} (c : MadeOf m n x) where
  made_a : ThreadMade x.g m.a n.a x.a
  made_a =
      record { fits = ((valid_fits x).0 c.valid).a; first = c.first.a; second = c.second.a; rules = c.rules_a; unused = c.unused_a }

  made_b : ThreadMade x.g m.b n.b x.b
  made_b =
      record { fits = ((valid_fits x).0 c.valid).b; first = c.first.b; second = c.second.b; rules = c.rules_b; unused = c.unused_b }

-- Two models that are both made of the same two are the same.
pub only_one : (m n x y : Model) → MadeOf m n x → MadeOf m n y → Places x → Places y → ByteMarks x → ByteMarks y → Same x y
only_one m n x y c d =
    let p = c.first in
    let q = d.first in
    let same : UpToOrder x y =
    record {
      g = sym p.g ∙ q.g;
      k = sym p.k ∙ q.k;
      start = sym p.start ∙ q.start;
      target = sym p.target ∙ q.target;
      a = same_set (part_of (made_a c) (made_a d)) (part_of (made_a d) (made_a c));
      b = same_set (part_of (made_b c) (made_b d)) (part_of (made_b d) (made_b c));
    } in
    one_order same c.valid d.valid
