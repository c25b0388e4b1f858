-- Two threads' steps in one list, by turn.
use Rattle.std.specs.Prelude.{Bool, true, false, cond, List, [], ◌∷◌, ◌≡◌, ℕ, ◌+◌, ◌/◌, ◌<◌, leb, length}
use Rattle.model.specs.Schedules.{step_at, steps_from}
use Rattle.model.specs.Walk.{Step}

-- Both lists' steps in the order of their turns, each list in its own order. Of two in one turn the first list's comes first.
unfoldable pub merged : List Step → List Step → List Step
merged [] ys = ys
merged (x ∷ xs) [] = x ∷ xs
merged (x ∷ xs) (y ∷ ys) = cond (leb x.turn y.turn) (x ∷ merged xs (y ∷ ys)) (y ∷ merged (x ∷ xs) ys)

-- Of the steps from place i of a and place j of b on, merged, the first is a's, or else b's.
abbrev pub Next : List ℕ → ℕ → List ℕ → ℕ → Bool → Type 0
Next a i b j true =
    (i < length a / 2) × (merged (steps_from a i) (steps_from b j) ≡ step_at a i ∷ merged (steps_from a (i + 1)) (steps_from b j))
Next a i b j false =
    (j < length b / 2) × (merged (steps_from a i) (steps_from b j) ≡ step_at b j ∷ merged (steps_from a i) (steps_from b (j + 1)))
