-- Which models are valid, which refusal number a model handed in as values gets, and when two models are the same.
use Rattle.std.specs.Prelude.{Bool, true, not, ◌&&◌, List, [], ◌∷◌, ◌≡◌, ℕ, zero, suc, ◌-◌, ◌<◌, leb, ltb, length}
use Rattle.model.specs.declared.Model.{Model}
use Rattle.model.specs.declared.Right.{Right}
use Rattle.model.specs.declared.Right.TheVariants.{Remove, Swap, Push}
use Rattle.model.specs.declared.Rule.{Rule}
use Rattle.model.specs.declared.Symbol.{Symbol}
use Rattle.model.specs.declared.Thread.{Thread}
use Rattle.model.specs.Tops.{Top}
use Rattle.std.specs.Prelude.{None, Some}
use Rattle.model.specs.Bits.{bit_at}
use Rattle.model.specs.Order.{above}
use Rattle.model.specs.Results.{refuse, first_of}
use Rattle.model.specs.Rules.{rule_at}

-- Refusal n of a symbol that is not below a limit.
unfoldable pub symbol_fault : ℕ → ℕ → Symbol → ℕ
symbol_fault n limit s = refuse n (ltb s.0 limit)

-- The same of a top that is named ..
unfoldable pub top_fault : ℕ → ℕ → Top → ℕ
top_fault n limit None = 0
top_fault n limit (Some s) = symbol_fault n limit s

-- .. and of the new symbols of a rule.
unfoldable pub right_fault : ℕ → ℕ → Right → ℕ
right_fault n limit Remove = 0
right_fault n limit (Swap a) = symbol_fault n limit a
right_fault n limit (Push a b) = first_of (symbol_fault n limit a ∷ symbol_fault n limit b ∷ [])

-- G, K, and the start and target states.
unfoldable pub range_fault : Model → ℕ
range_fault m =
    first_of
    (refuse 3 (leb 1 m.g && leb m.g 4) ∷ refuse 3 (leb 1 m.k && leb m.k 3) ∷
    refuse 3 (ltb m.start.0 m.g) ∷ refuse 3 (ltb m.target.0 m.g) ∷ [])

-- The head fields of a thread: its symbol count is 1 to 16, and its top, if one is named, and its first symbol are at most 15.
unfoldable pub fields_fault : Thread → ℕ
fields_fault t =
    first_of
    (refuse 3 (leb 1 t.symbols && leb t.symbols 16) ∷ top_fault 3 16 t.top ∷ symbol_fault 3 16 t.first ∷ [])

-- The head fields: those of the model, then those of A and of B.
unfoldable pub head_fault : Model → ℕ
head_fault m = first_of (range_fault m ∷ fields_fault m.a ∷ fields_fault m.b ∷ [])

-- A rule's states are below G and its symbols at most 15.
unfoldable pub rule_fault : ℕ → Rule → ℕ
rule_fault g r =
    first_of
    (refuse 4 (ltb r.before.0 g) ∷ symbol_fault 4 16 r.symbol ∷ refuse 4 (ltb r.after.0 g) ∷
    right_fault 4 16 r.right ∷ [])

-- The refusal number of n rules from number r on, each in turn: its own fault by 4, then 13 unless it is above the one before it.
unfoldable pub rules_fault : ℕ → Thread → ℕ → ℕ → ℕ
rules_fault g t r zero = 0
rules_fault g t r (suc n) =
    first_of (rule_fault g (rule_at t r) ∷ refuse 13 (above t r) ∷ rules_fault g t (suc r) n ∷ [])

-- A thread has at most 64 rules, each of them is in range, and they ascend; unused places are not looked at.
unfoldable pub thread_fault : ℕ → Thread → ℕ
thread_fault g t = first_of (refuse 4 (leb t.count 64) ∷ rules_fault g t 0 t.count ∷ [])

-- No mark stands on n rule numbers from r on.
unfoldable pub free_from : List ℕ → ℕ → ℕ → Bool
free_from marks r zero = true
free_from marks r (suc n) = not (bit_at marks r) && free_from marks (suc r) n

-- No mark stands on a rule number that a list of so many rules lacks: of 64, those from its count on.
unfoldable pub mark_fault : List ℕ → ℕ → ℕ
mark_fault marks count = refuse 11 (free_from marks count (64 - count))

-- The marks of A, and then those of B.
unfoldable pub marks_fault : Model → ℕ
marks_fault m = first_of (mark_fault m.a.held m.a.count ∷ mark_fault m.b.held m.b.count ∷ [])

-- The symbols of n rules from number r on, before and new, are below a limit.
unfoldable pub used_fault : ℕ → Thread → ℕ → ℕ → ℕ
used_fault limit t r zero = 0
used_fault limit t r (suc n) =
    first_of
    (symbol_fault 17 limit (rule_at t r).symbol ∷ right_fault 17 limit (rule_at t r).right ∷ used_fault limit t (suc r) n ∷ [])

-- Wherever a symbol of a thread stands, it is below the thread's symbol count: the first, the top, and those of its rules.
unfoldable pub symbols_fault : Thread → ℕ
symbols_fault t =
    first_of
    (symbol_fault 17 t.symbols t.first ∷ top_fault 17 t.symbols t.top ∷ used_fault t.symbols t 0 t.count ∷ [])

-- What the parts of a model ask of each other: marks stand on rules of the lists, and then symbols are below the counts, A's and B's.
unfoldable pub cross_fault : Model → ℕ
cross_fault m = first_of (marks_fault m ∷ symbols_fault m.a ∷ symbols_fault m.b ∷ [])

-- The refusal number of a model handed in as values: its head by 3, then A's rules by 4 and 13, then B's, then the marks of held rules by
-- 11, and then the symbols by 17; 0 for none.
unfoldable pub fault_of : Model → ℕ
fault_of m = first_of (head_fault m ∷ thread_fault m.g m.a ∷ thread_fault m.g m.b ∷ cross_fault m ∷ [])

-- The refusal of a call that fills a store: the model's fault, then 7 where a store has no room for what it must hold; 0
-- for none.
unfoldable pub store_refusal : Model → Bool → ℕ
store_refusal m room = first_of (fault_of m ∷ refuse 7 room ∷ [])

-- A model is valid if the checks find no fault in it.
abbrev pub Valid : Model → Type 0
Valid m = fault_of m ≡ 0

-- Two threads agree in every place that is used.
pub record SameThread (t u : Thread) : Type 0 where
  pub symbols : t.symbols ≡ u.symbols
  pub first : t.first ≡ u.first
  pub top : t.top ≡ u.top
  pub held : t.held ≡ u.held
  pub count : t.count ≡ u.count
  pub rules : (r : ℕ) → r < t.count → rule_at t r ≡ rule_at u r

-- Two models are the same if they agree in all places but the unused ones.
pub record Same (m n : Model) : Type 0 where
  pub g : m.g ≡ n.g
  pub k : m.k ≡ n.k
  pub start : m.start ≡ n.start
  pub target : m.target ≡ n.target
  pub a : SameThread m.a n.a
  pub b : SameThread m.b n.b

-- A model has 64 rule places a thread and eight bytes of marks, as the arrays of every model handed in do.
pub record Places (m : Model) : Type 0 where
  pub a : length m.a.rules ≡ 64
  pub b : length m.b.rules ≡ 64
  pub held_a : length m.a.held ≡ 8
  pub held_b : length m.b.held ≡ 8
