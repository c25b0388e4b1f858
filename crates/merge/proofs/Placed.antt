-- Lists of rules by place: what all or some rules have, the rule at each or some place has, keys rise from place to place, and the thread
-- made of a list has at each place what the list has there.
use mathlib.Core.Bool.{false}
use mathlib.Core.List.{List, [], ◌∷◌, map}
use mathlib.Core.Path.{◌≡◌, ◌∙◌}
use Prim.Native.Nat.{ℕ, zero, suc, ◌<◌}
use native.Mathlib.Omega.{arith}
use lib.ListN.{length, get_or, length-map, get_or-append, get_or-map}
use Rattle.model.specs.declared.Thread.{Thread}
use Rattle.model.specs.Rules.{zero_rule, rule_at, held_at}
use Rattle.merge.specs.Answer.{flag_at, held_in, thread_with}
use Rattle.merge.specs.Union.{Entry, key_in}
use Rattle.merge.proofs.Ascending.{Ascends}
use Rattle.merge.proofs.Flags.{flag_back}
use Rattle.merge.proofs.Inserted.{All, end, also}
use Rattle.merge.proofs.Members.{Some, here, there}

-- The rule at a place of a list; past its end there is none, and none is held.
abbrev no_entry : Entry
no_entry = record { rule = zero_rule; held = false; free = false }

abbrev pub entry_at : List Entry → ℕ → Entry
entry_at es p = get_or es p no_entry

-- What all rules of a list have, the one at each place has ..
pub all-at : {P : Entry → Type 0} {es : List Entry} → All P es → (p : ℕ) → p < length es → P (entry_at es p)
all-at end p h = absurd (omega arith)
all-at (also q a) zero h = q
all-at (also q a) (suc p) h = all-at a p (omega arith)

-- .. what some rule has, one at some place has ..
pub some_at : {P : Entry → Type 0} {es : List Entry} → Some P es → (p : ℕ) × (p < length es) × P (entry_at es p)
some_at (here c) = (0, omega arith, c)
some_at (there c) = let z = some_at c in (suc z.0, omega (arith, z.1), z.2)

-- .. and keys rise from each place to the next.
pub next_above : (es : List Entry) → Ascends es → (p : ℕ) → suc p < length es → key_in (entry_at es p) < key_in (entry_at es (suc p))
next_above [] s p h = absurd (omega arith)
next_above (x ∷ []) s p h = absurd (omega arith)
next_above (x ∷ y ∷ ys) s zero h = all-at s.0 0 (omega arith)
next_above (x ∷ y ∷ ys) s (suc p) h = next_above (y ∷ ys) s.1 p (omega arith)

-- The thread with a list's rules has at each place what the list has there: the rule, and whether it is held.
module _ (t : Thread) (es : List Entry) (p : ℕ) where
  pub rule_at_lem : p < length es → rule_at (thread_with t es) p ≡ (entry_at es p).rule
  rule_at_lem h =
      get_or-append (map (λ e. e.rule) es) _ zero_rule p (rw length-map h) ∙ get_or-map (λ e. e.rule) es p no_entry

  pub held_at_lem : p < 64 → held_at (thread_with t es) p ≡ (entry_at es p).held
  unfolding flag_at
  held_at_lem h = flag_back (held_in es) p h ∙ get_or-map (λ e. e.held) es p no_entry
