-- The rules as text, byte by byte in ASCII, where 32 is a blank and 48 on are the digits: one a line, each with byte 0A behind it.
use Rattle.std.specs.Prelude.{List, [], ◌∷◌, ◌++◌, map, ℕ, ◌+◌}
use Rattle.text.specs.Text.{decimal}
use Rattle.sequential.specs.System.{State, StackRule}

-- A state: its counter and then its copies, one digit each.
unfoldable pub state_text : State → List ℕ
state_text s = map (λ x. 48 + x) (s.counter ∷ s.copies)

-- Symbols in base ten, a blank before each.
unfoldable pub symbols_text : List ℕ → List ℕ
symbols_text [] = []
symbols_text (s ∷ l) = 32 ∷ decimal s ++ symbols_text l

-- A rule: state, top, next state and new symbols, with one blank between.
unfoldable pub rule_text : StackRule → List ℕ
rule_text r =
    state_text r.state ++ symbols_text (r.top ∷ []) ++ (32 ∷ state_text r.next) ++ symbols_text r.new ++ (10 ∷ [])

-- The rules of a list, line by line.
unfoldable pub text_of : List StackRule → List ℕ
text_of [] = []
text_of (r ∷ l) = rule_text r ++ text_of l
