-- What the sequential system is for: its check symbol comes on top exactly for the runs of K rounds.
use Rattle.std.specs.Prelude.{List, [], ◌∷◌, ◌++◌, ◌↔◌, ◌≡◌, ℕ, ◌*◌, length}
use Rattle.model.specs.declared.Model.{Model}
use Rattle.model.specs.declared.ThreadId.TheVariants.{A, B}
use Rattle.model.specs.Runs.{Marked}
use Rattle.sequential.specs.Allowed.{symbol_of, bottom, closing, at}
use Rattle.sequential.specs.System.{StackRule, Tops}

-- The states of a line at which its rounds end: of each two turns the second.
abbrev pub round_ends : List ℕ → List ℕ
round_ends [] = []
round_ends (x ∷ []) = []
round_ends (x ∷ y ∷ line) = y ∷ round_ends line

-- Some run of K rounds has these shared states before rounds 2 to K, and ends in e.
pub record Rounds (m : Model) (gs : List ℕ) (e : ℕ) : Type 0 where
  pub line : List ℕ
  pub full : length line ≡ 2 * m.k
  pub ends : round_ends line ≡ gs ++ (e ∷ [])
  pub run : Marked m line

-- From counter 1, copies (start, g2 .. gK) and A's first symbol over its mark, the check symbol can come on top at counter 1 with copies
-- (g2 .. gK, e).
abbrev pub Checks : (StackRule → Type 0) → Model → List ℕ → ℕ → Type 0
Checks Allows m gs e =
    Tops Allows (closing B) (at 1 (m.start.0 ∷ gs)) (symbol_of A m.a.first.0 ∷ bottom A ∷ []) (at 1 (gs ++ (e ∷ [])))

-- The reduction is right for a set of rules: the one exactly if the other, over runs of any length and depth.
abbrev pub Reduces : (StackRule → Type 0) → Model → Type 0
Reduces Allows m = (gs : List ℕ) (e : ℕ) → Checks Allows m gs e ↔ Rounds m gs e
