-- Tables of least step counts. Counts are capped: those below `cap` are exact.
use Rattle.std.specs.Prelude.{List, ◌++◌, ◌≡◌, ℕ, ◌≤◌, min, length}
use Rattle.model.specs.declared.Right.{Right}
use Rattle.summary.specs.Stretch.{End, Stretch}

-- The count that stands for so many steps or more: a run exists, and each has as many.
abbrev pub cap : ℕ
cap = 4096

-- What stands for no count: there is no run.
abbrev pub unreached : ℕ
unreached = 4097

-- A number of steps, capped.
abbrev pub capped : ℕ → ℕ
capped steps = min steps cap

-- A count is the capped least number of steps of the runs of a kind, given by their lists of steps. Where there
-- is no run it is above the cap.
pub record Least {S : Type 0} (Run : List S → Type 0) (count : ℕ) : Type 0 where
  pub some : count ≤ cap → (ss : List S) × Run ss × (capped (length ss) ≡ count)
  pub least : {ss : List S} → Run ss → (count ≤ cap) × (count ≤ length ss)

module _ {C S : Type 0} (Move : C → ℕ → S → Right → C → Type 0) (Switch : C → C → Type 0) where
  -- Steps of a stretch, whatever steps come after it.
  abbrev pub Uses : C → ℕ → End C → List S → Type 0
  Uses c γ d us = (rest : List S) → Stretch Move Switch c γ d (us ++ rest) rest

  -- An entry is the capped least number of steps of the stretches that it stands for.
  abbrev pub Exact : C → ℕ → End C → ℕ → Type 0
  Exact c γ d entry = Least (Uses c γ d) entry
