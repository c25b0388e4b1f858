-- The rules of two threads as one ascending list, each once, with how they are held.
use Rattle.std.specs.Prelude.{Bool, false, not, ◌&&◌, ◌||◌, cond, List, [], ◌∷◌, ◌≡◌, ℕ, zero, suc, ◌<◌, ltb}
use Rattle.model.specs.declared.Rule.{Rule}
use Rattle.model.specs.declared.Thread.{Thread}
use Rattle.model.specs.Order.{key_of}
use Rattle.model.specs.Rules.{rule_at, held_at}

-- A rule of one thread or of both: whether one has it held, and whether one has it free.
pub record Entry : Type 0 where
  pub rule : Rule
  pub held : Bool
  pub free : Bool

-- The key of an entry's rule.
abbrev pub key_in : Entry → ℕ
key_in e = key_of e.rule

-- Rule r of a thread.
abbrev pub entry_of : Thread → ℕ → Entry
entry_of t r = record { rule = rule_at t r; held = held_at t r; free = not (held_at t r) }

-- One rule that both have.
abbrev pub both : Entry → Entry → Entry
both x y = record { rule = x.rule; held = x.held || y.held; free = x.free || y.free }

-- The n rules of a thread from number r on.
unfoldable pub entries_from : Thread → ℕ → ℕ → List Entry
entries_from t r zero = []
entries_from t r (suc n) = entry_of t r ∷ entries_from t (suc r) n

-- A rule put in its place in an ascending list: before those above it, and once where it is there already.
unfoldable pub insert : Entry → List Entry → List Entry
insert x [] = x ∷ []
insert x (y ∷ ys) =
    cond (ltb (key_in x) (key_in y)) (x ∷ y ∷ ys) (cond (ltb (key_in y) (key_in x)) (y ∷ insert x ys) (both x y ∷ ys))

-- All of one list put into another.
unfoldable pub join : List Entry → List Entry → List Entry
join [] ys = ys
join (x ∷ xs) ys = insert x (join xs ys)

-- The rules of either thread.
abbrev pub union_of : Thread → Thread → List Entry
union_of t u = join (entries_from t 0 t.count) (entries_from u 0 u.count)

-- Some rule is held in one thread and free in the other.
unfoldable pub clash : List Entry → Bool
clash [] = false
clash (e ∷ es) = (e.held && e.free) || clash es

-- What that comes to (a law): a rule of both threads, by its numbers there, that one of them has held and the other free.
pub record Clashing (t u : Thread) : Type 0 where
  pub number : ℕ
  pub other : ℕ
  pub listed : number < t.count
  pub listed_other : other < u.count
  pub same : rule_at t number ≡ rule_at u other
  pub differ : held_at t number ≡ not (held_at u other)
