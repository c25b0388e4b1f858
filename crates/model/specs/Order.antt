-- The order of rules: a key for each rule, and when a thread's rules ascend.
use Rattle.std.specs.Prelude.{Bool, true, false, ◌&&◌, ◌||◌, List, [], ◌∷◌, ℕ, zero, suc, ◌+◌, ◌*◌, ltb, eqb}
use Rattle.model.specs.declared.Right.{Right}
use Rattle.model.specs.declared.Right.TheVariants.{Remove, Swap, Push}
use Rattle.model.specs.declared.Rule.{Rule}
use Rattle.model.specs.declared.Thread.{Thread}
use Rattle.model.specs.Rules.{rule_at}

-- The last three digits of a key: the number of new symbols, the first and the second, 0 for one that is absent.
unfoldable pub right_key : Right → ℕ
right_key Remove = 0
right_key (Swap a) = 256 + a.0 * 16
right_key (Push a b) = 512 + a.0 * 16 + b.0

-- The key of a rule: before state, before symbol, after state, number of new symbols, first and second symbol, as the digits of one number
-- in base 16. In a rule that is in range each is below 16, so keys compare as these do, one after another (a law).
unfoldable pub key_of : Rule → ℕ
key_of r = ((r.before.0 * 16 + r.symbol.0) * 16 + r.after.0) * 4096 + right_key r.right

-- Rule r of a thread is above the one before it, if there is one.
unfoldable pub above : Thread → ℕ → Bool
above t zero = true
above t (suc r) = ltb (key_of (rule_at t r)) (key_of (rule_at t (suc r)))

-- The number of new symbols, and these.
abbrev pub new_of : Right → List ℕ
new_of Remove = 0 ∷ []
new_of (Swap a) = 1 ∷ a.0 ∷ []
new_of (Push a b) = 2 ∷ a.0 ∷ b.0 ∷ []

-- What rules are ordered by, one after another.
abbrev pub ordered_by : Rule → List ℕ
ordered_by r = r.before.0 ∷ r.symbol.0 ∷ r.after.0 ∷ new_of r.right

-- One list comes before another (lexicographically): at the first place where they differ it has the lower number, or it ends there.
unfoldable pub precedes : List ℕ → List ℕ → Bool
precedes xs [] = false
precedes [] (y ∷ ys) = true
precedes (x ∷ xs) (y ∷ ys) = ltb x y || (eqb x y && precedes xs ys)
