-- What the functions that join two threads' rules are asked for and answer, part by part.
use Rattle.std.specs.Prelude.{false, List, ◌∷◌, map, ◌≡◌, ℕ, suc, ◌+◌, ◌-◌, ◌≤◌, ◌<◌, leb, length}
use Rattle.model.specs.declared.Thread.{Thread}
use Rattle.model.specs.Order.{key_of}
use Rattle.model.specs.Results.{Result, accepted, need}
use Rattle.model.specs.Rules.{zero_rule, rule_at}
use Rattle.model.specs.Zero.{in_places}
use Rattle.merge.specs.declared.Filled.{Filled}
use Rattle.merge.specs.declared.Next.{Next}
use Rattle.merge.specs.Answer.{thread_with, room_for}
use Rattle.merge.specs.Union.{Entry, entries_from, join, union_of}

-- What is asked of a thread: at most 64 rules, which ascend.
pub record Listed (t : Thread) : Type 0 where
  pub most : t.count ≤ 64
  pub order : (r : ℕ) → suc r < t.count → key_of (rule_at t r) < key_of (rule_at t (suc r))

-- The rules of either thread, from number i of the one and number j of the other on.
abbrev pub union_from : Thread → Thread → ℕ → ℕ → List Entry
union_from t u i j = join (entries_from t i (t.count - i)) (entries_from u j (u.count - j))

-- A rule and the numbers after it.
abbrev pub next_with : Entry → ℕ → ℕ → Next
next_with e i j = record { rule = e.rule; held = e.held; free = e.free; i = i; j = j }

-- The rule alone.
abbrev pub entry_in : Next → Entry
entry_in x = record { rule = x.rule; held = x.held; free = x.free }

-- What stands first of the rules from numbers i and j on, and that the others are those from the numbers after it on.
pub record Nexts (t u : Thread) (i j : ℕ) (x : Next) : Type 0 where
  pub same : union_from t u i j ≡ entry_in x ∷ union_from t u x.i x.j
  pub low_i : x.i ≤ t.count
  pub low_j : x.j ≤ u.count
  pub more : i + j < x.i + x.j

-- The rules of a list in places, and which of them are held.
abbrev pub filled_with : List Entry → Filled
filled_with es =
    record {
      count = length es;
      rules = in_places zero_rule (map (λ e. e.rule) es);
      held = in_places false (map (λ e. e.held) es);
    }

-- The answer with a list in places: 16 where it has more than 64 rules.
abbrev pub filling_of : List Entry → Result Filled
filling_of es = need 16 (leb (length es) 64) (accepted (filled_with es))

-- The answer with the thread of two threads' rules: 16 where they have more than 64.
abbrev pub joining_of : Thread → Thread → Result Thread
joining_of t u = need 16 (room_for t u) (accepted (thread_with t (union_of t u)))
