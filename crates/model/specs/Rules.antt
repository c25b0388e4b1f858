-- What a rule does: when it applies, the stack it leaves, and whether a turn may end after it. Stacks are lists of symbols with the top first.
use Rattle.std.specs.Prelude.{Bool, ◌&&◌, List, ◌∷◌, ℕ, ltb, eqb, get_or}
use Rattle.model.specs.Bits.{bit_at}
use Rattle.model.specs.declared.Right.{Right}
use Rattle.model.specs.declared.Right.TheVariants.{Remove, Swap, Push}
use Rattle.model.specs.declared.Rule.{Rule}
use Rattle.model.specs.declared.Thread.{Thread}

-- What an unused rule place of a model read holds.
abbrev pub zero_rule : Rule
zero_rule =
    record { before = record { 0 = 0 }; symbol = record { 0 = 0 }; after = record { 0 = 0 }; right = Remove }

-- Rule number r of a thread, counted from 0.
abbrev pub rule_at : Thread → ℕ → Rule
rule_at t r = get_or t.rules r zero_rule

-- Rule r applies: it is in the thread's list, and shared state and top of the stack equal its before pair.
unfoldable pub applies : Thread → ℕ → ℕ → ℕ → Bool
applies t r shared top =
    ltb r t.count && eqb (rule_at t r).before.0 shared && eqb (rule_at t r).symbol.0 top

-- A stack whose top is gone, once the right side has come: its first symbol on top.
abbrev pub put : Right → List ℕ → List ℕ
put Remove w = w
put (Swap a) w = a.0 ∷ w
put (Push a b) w = a.0 ∷ b.0 ∷ w

-- Rule r is held: no turn ends right after it.
abbrev pub held_at : Thread → ℕ → Bool
held_at t r = bit_at t.held r
