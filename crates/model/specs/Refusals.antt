-- The number of each refusal, and what an answer says with it.
use Rattle.std.specs.Prelude.{ℕ, Result, Ok, Err}
use Rattle.model.specs.declared.refusal.Refusal.{Refusal}
use Rattle.model.specs.declared.refusal.Refusal.TheVariants as refusal
use Rattle.model.specs.Results as results

-- The number that the formats give a refusal.
abbrev pub number_of : Refusal → ℕ
number_of refusal.CutShort = 1
number_of refusal.NoTarget = 2
number_of refusal.Head = 3
number_of refusal.Rule = 4
number_of refusal.Needless = 5
number_of refusal.Trailing = 6
number_of refusal.Store = 7
number_of refusal.ScheduleSize = 8
number_of refusal.Turn = 9
number_of refusal.Step = 10
number_of refusal.Mark = 11
number_of refusal.Held = 12
number_of refusal.Order = 13
number_of refusal.Heads = 14
number_of refusal.Clash = 15
number_of refusal.ManyRules = 16
number_of refusal.Symbol = 17
number_of refusal.Log = 18
number_of refusal.ManyRecords = 19
number_of refusal.Places = 20
number_of refusal.NotPlain = 21

-- The number of the refusal that a check answers; 0 for none.
abbrev pub due : Result (Unit {0}) Refusal → ℕ
due (Ok x) = 0
due (Err r) = number_of r

-- What a call answers: a value, or the number of its refusal.
abbrev pub told : {A : Type 0} → Result A Refusal → results.Result A
told (Ok a) = results.accepted a
told (Err r) = results.refused (number_of r)
