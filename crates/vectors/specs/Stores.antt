-- What a call answers, and what it leaves in a store.
use Rattle.std.specs.Borrow.{MutBor}
use Rattle.std.specs.Fn.{Shared}
use Rattle.std.specs.Prelude.{Bool, ◌&&◌, ◌≡◌, ◌==◌, nat_eq, List, ℕ, Result, Ok, Err, length, drop, replicate, true}
use Rattle.std.specs.List.{starts_with, list_all}
use Rattle.model.specs.declared.Model.{Model}
use Rattle.model.specs.declared.refusal.Refusal.{Refusal}
use Rattle.model.specs.Refusals.{number_of}
use Rattle.model.specs.Results as results
use Rattle.model.specs.Zero.{zero_model}

-- The number of an answer: a refusal's, or 0 where there is none.
abbrev pub answer_of : {A : Type 0} → Result A Refusal → ℕ
answer_of (Ok a) = 0
answer_of (Err r) = number_of r

-- The size that is answered; 0 beside a refusal.
abbrev pub size_of : Result ℕ Refusal → ℕ
size_of (Ok n) = n
size_of (Err r) = 0

-- The model that is read; the one without states where a record is refused.
abbrev pub model_or_zero : results.Result Model → Model
model_or_zero (results.accepted m) = m
model_or_zero (results.refused n) = zero_model

-- Every byte is b.
abbrev pub all_are : ℕ → List ℕ → Bool
all_are b xs = list_all (λ x. x == b) xs

-- These bytes stand in front, and every byte behind them is b.
abbrev pub front_and : List ℕ → List ℕ → ℕ → Bool
front_and xs front b = starts_with nat_eq xs front && all_are b (drop (length front) xs)

-- A call has this number for its answer, says the size of these bytes, and leaves them in front of bytes 0xEE.
abbrev pub put_as : Result ℕ Refusal → List ℕ → ℕ → List ℕ → Bool
put_as made xs answer front = (answer_of made == answer) && ((size_of made == length front) && front_and xs front 0xEE)

-- A call of f at a store may answer this and leave that there.
pub record MayLeave {F : Type 0} (g : Shared F (MutBor (List ℕ) × Unit {0}) (Result ℕ Refusal × (MutBor (List ℕ) × Unit {0}))) (f : F) (old : List ℕ) (made : Result ℕ Refusal) (new : List ℕ) : Type 0 where
  pub shown : MutBor (List ℕ)
  pub shows : shown.now ≡ old
  pub left : MutBor (List ℕ)
  pub met : g.post f (shown, tt) (made, (left, tt))
  pub leaves : left.now ≡ new

-- In a store of n bytes 0xEE, a call of f may put these bytes so.
abbrev pub MayPut : {F : Type 0} (g : Shared F (MutBor (List ℕ) × Unit {0}) (Result ℕ Refusal × (MutBor (List ℕ) × Unit {0}))) → F → ℕ → ℕ → List ℕ → Type 0
MayPut g f n answer front = (made : Result ℕ Refusal) × (new : List ℕ) × MayLeave g f (replicate n 0xEE) made new × (put_as made new answer front ≡ true)
