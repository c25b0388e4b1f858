-- Results: what a reader or a walk comes to, and the order of refusals, of which the first that is due is the answer.
use Rattle.std.specs.Prelude.{Bool, true, false, List, [], ◌∷◌, ◌++◌, ℕ, zero, suc, length, drop}

-- What a reader or a walk comes to: the number of its first fault, or a value.
pub data Result (A : Type 0) : Type 0 where
  refused : ℕ → Result A
  accepted : A → Result A

-- What follows a part that was not refused.
abbrev pub and_then : {A B : Type 0} → Result A → (A → Result B) → Result B
and_then (refused n) next = refused n
and_then (accepted a) next = next a

-- Refusal n where a test fails.
abbrev pub need : {A : Type 0} → ℕ → Bool → Result A → Result A
need n true r = r
need n false r = refused n

-- A refusal that is due, 0 for none, comes before all else.
abbrev pub unless : {A : Type 0} → ℕ → Result A → Result A
unless zero r = r
unless (suc n) r = refused (suc n)

-- The number of a refusal where a test fails; 0 stands for none.
abbrev pub refuse : ℕ → Bool → ℕ
refuse n true = 0
refuse n false = n

-- The first refusal of checks made in order.
unfoldable pub first_of : List ℕ → ℕ
first_of [] = 0
first_of (zero ∷ ns) = first_of ns
first_of (suc n ∷ ns) = suc n

-- The store of a call that puts bytes at its front, by the refusal that is due: as it was, or with none the bytes and the rest of what it
-- held.
abbrev pub store_by : ℕ → List ℕ → List ℕ → List ℕ
store_by zero bytes store = bytes ++ drop (length bytes) store
store_by (suc n) bytes store = store
