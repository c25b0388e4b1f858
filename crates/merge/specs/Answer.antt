-- What the call that merges two models answers: the first refusal that is due, or the two made one; and what that one is to each of them.
use Rattle.std.specs.Prelude.{Bool, true, false, not, ◌&&◌, List, [], ◌∷◌, map, ◌⊎◌, ℕ, zero, suc, ◌+◌, ◌*◌, ◌<◌, leb, eqb, length, get_or}
use Rattle.std.specs.Prelude.{None, Some}
use Rattle.model.specs.declared.Model.{Model}
use Rattle.model.specs.declared.Thread.{Thread}
use Rattle.model.specs.Tops.{Top}
use Rattle.model.specs.Bits.{one_if}
use Rattle.model.specs.Results.{Result, refused, accepted, unless, refuse, first_of}
use Rattle.model.specs.Rules.{zero_rule, rule_at}
use Rattle.model.specs.UpToOrder.{RuleOf}
use Rattle.model.specs.Valid.{fault_of, Valid}
use Rattle.model.specs.Zero.{in_places, Unused}
use Rattle.merge.specs.Parts.{Part, Carries}
use Rattle.merge.specs.Union.{Entry, union_of, clash}

-- Two tops ask for the same: none is named, or the same symbol is.
unfoldable pub same_top : Top → Top → Bool
same_top None None = true
same_top None (Some s) = false
same_top (Some s) None = false
same_top (Some s) (Some t) = eqb s.0 t.0

-- Two threads have the same head fields: symbol count, first symbol and top.
unfoldable pub same_fields : Thread → Thread → Bool
same_fields t u = eqb t.symbols u.symbols && eqb t.first.0 u.first.0 && same_top t.top u.top

-- Two models have the same head: G, K, start, target, and the head fields of A and of B.
unfoldable pub same_head : Model → Model → Bool
same_head m n =
    eqb m.g n.g && eqb m.k n.k && eqb m.start.0 n.start.0 && eqb m.target.0 n.target.0 &&
    same_fields m.a n.a && same_fields m.b n.b

-- The first model's fault, then the second's, then 14 where their heads differ.
unfoldable pub parts_fault : Model → Model → ℕ
parts_fault m n = first_of (fault_of m ∷ fault_of n ∷ refuse 14 (same_head m n) ∷ [])

-- 15 where a rule of A is held in one and free in the other, then the same of B.
unfoldable pub clash_fault : Model → Model → ℕ
clash_fault m n =
    first_of (refuse 15 (not (clash (union_of m.a n.a))) ∷ refuse 15 (not (clash (union_of m.b n.b))) ∷ [])

-- Two threads have at most 64 rules in all, so that a thread has room for them.
abbrev pub room_for : Thread → Thread → Bool
room_for t u = leb (length (union_of t u)) 64

-- 16 for more than 64 rules in A, then the same of B.
unfoldable pub size_fault : Model → Model → ℕ
size_fault m n = first_of (refuse 16 (room_for m.a n.a) ∷ refuse 16 (room_for m.b n.b) ∷ [])

-- The refusal that two models get, 0 for none.
unfoldable pub merge_fault : Model → Model → ℕ
merge_fault m n = first_of (parts_fault m n ∷ clash_fault m n ∷ size_fault m n ∷ [])

-- The n bits from place p on as a number, lowest first.
unfoldable pub bits_from : (ℕ → Bool) → ℕ → ℕ → ℕ
bits_from f p zero = 0
bits_from f p (suc n) = 2 * bits_from f (suc p) n + one_if (f p)

-- The n bytes whose bits are those from place p on.
unfoldable pub bytes_from : (ℕ → Bool) → ℕ → ℕ → List ℕ
bytes_from f p zero = []
bytes_from f p (suc n) = bits_from f p 8 ∷ bytes_from f (p + 8) n

-- The flag at place p of a list; none stands past its end.
unfoldable pub flag_at : List Bool → ℕ → Bool
flag_at flags p = get_or flags p false

-- Which rules of a list are held.
abbrev pub held_in : List Entry → ℕ → Bool
held_in es = flag_at (map (λ e. e.held) es)

-- A thread with the rules of a list, held as they are there, and with the head fields of another.
abbrev pub thread_with : Thread → List Entry → Thread
thread_with t es =
    record {
      symbols = t.symbols;
      first = t.first;
      top = t.top;
      held = bytes_from (held_in es) 0 8;
      count = length es;
      rules = in_places zero_rule (map (λ e. e.rule) es);
    }

-- Two models made one: the head of both, and in each thread the rules of either.
abbrev pub made_one : Model → Model → Model
made_one m n =
    record {
      g = m.g;
      k = m.k;
      start = m.start;
      target = m.target;
      a = thread_with m.a (union_of m.a n.a);
      b = thread_with m.b (union_of m.b n.b);
    }

-- The answer of the call: the refusal that is due, or with none both made one.
unfoldable pub merging_of : Model → Model → Result Model
merging_of m n = unless (merge_fault m n) (accepted (made_one m n))

-- Each rule of a thread is a rule of one of two others.
abbrev pub OfEither : Thread → Thread → Thread → Type 0
OfEither t u whole = (r : ℕ) → r < whole.count → RuleOf t (rule_at whole r) ⊎ RuleOf u (rule_at whole r)

-- A model is two others made one: it is valid, so that its rules ascend and each is there once; both are parts of it, so that each of their
-- rules is there and is held as it was; it has no other rule, and its unused places are zero. And it keeps what the verdicts on them say.
pub record MadeOf (m n whole : Model) : Type 0 where
  pub valid : Valid whole
  pub first : Part m whole
  pub second : Part n whole
  pub rules_a : OfEither m.a n.a whole.a
  pub rules_b : OfEither m.b n.b whole.b
  pub unused_a : Unused whole.a
  pub unused_b : Unused whole.b
  pub carries_first : Carries m whole
  pub carries_second : Carries n whole

-- What an answer promises: a model that was made is made of those two.
abbrev pub Makes : Model → Model → Result Model → Type 0
Makes m n (accepted whole) = MadeOf m n whole
Makes m n (refused k) = Unit {0}
