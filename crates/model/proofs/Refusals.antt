-- A refusal's number names it, and no other: the numbers are read back one by one. So what an answer says with numbers says which answer it
-- is.
use mathlib.Core.Path.{◌≡◌, refl, sym, ap, ◌∙◌}
use mathlib.Core.List.{List, [], ◌∷◌}
use Prim.Native.Nat.{ℕ, ◌-◌}
use lib.ListN.{get_or}
use native.Mathlib.Omega.{arith}
use Rattle.std.specs.Prelude.{Result, Ok, Err}
use Rattle.model.specs.declared.refusal.Refusal.{Refusal}
use Rattle.model.specs.declared.refusal.Refusal.TheVariants as refusal
use Rattle.model.specs.Refusals.{number_of, due, told}

-- All refusals, in the order of their numbers, and the one with a number.
all : List Refusal
all =
    refusal.CutShort ∷ refusal.NoTarget ∷ refusal.Head ∷ refusal.Rule ∷ refusal.Needless ∷ refusal.Trailing ∷ refusal.Store ∷
    refusal.ScheduleSize ∷ refusal.Turn ∷ refusal.Step ∷ refusal.Mark ∷ refusal.Held ∷ refusal.Order ∷ refusal.Heads ∷
    refusal.Clash ∷ refusal.ManyRules ∷ refusal.Symbol ∷ refusal.Log ∷ refusal.ManyRecords ∷ refusal.Places ∷ refusal.NotPlain ∷ []

of_number : ℕ → Refusal
of_number n = get_or all (n - 1) refusal.NotPlain

read_back : (r : Refusal) → of_number (number_of r) ≡ r
unfolding of_number all
read_back refusal.CutShort = refl
read_back refusal.NoTarget = refl
read_back refusal.Head = refl
read_back refusal.Rule = refl
read_back refusal.Needless = refl
read_back refusal.Trailing = refl
read_back refusal.Store = refl
read_back refusal.ScheduleSize = refl
read_back refusal.Turn = refl
read_back refusal.Step = refl
read_back refusal.Mark = refl
read_back refusal.Held = refl
read_back refusal.Order = refl
read_back refusal.Heads = refl
read_back refusal.Clash = refl
read_back refusal.ManyRules = refl
read_back refusal.Symbol = refl
read_back refusal.Log = refl
read_back refusal.ManyRecords = refl
read_back refusal.Places = refl
read_back refusal.NotPlain = refl

-- Two refusals with one number are the same.
pub number_names : (r s : Refusal) → number_of r ≡ number_of s → r ≡ s
number_names r s e = sym (read_back r) ∙ ap of_number e ∙ read_back s

-- No refusal has the number 0.
pub number_some : (r : Refusal) → number_of r ≡ 0 → ⊥
number_some refusal.CutShort e = absurd (omega arith)
number_some r e = absurd (omega arith)

-- Two checks that say the same number answer the same ..
pub due_names : (r s : Result (Unit {0}) Refusal) → due r ≡ due s → r ≡ s
due_names (Ok x) (Ok y) e = refl
due_names (Ok x) (Err r) e = absurd (number_some r (sym e))
due_names (Err r) (Ok x) e = absurd (number_some r e)
due_names (Err r) (Err s) e = ap Err (number_names r s e)

-- .. and so do two calls that say the same.
pub told_names : {A : Type 0} (r s : Result A Refusal) → told r ≡ told s → r ≡ s
told_names (Ok a) (Ok b) e = let h : a ≡ b = cc in ap Ok h
told_names (Ok a) (Err r) e = cc
told_names (Err r) (Ok a) e = cc
told_names (Err r) (Err s) e = let h : number_of r ≡ number_of s = cc in ap Err (number_names r s h)
