-- Unused places: what they hold in a model that was read or made, and the model whose places are all zero.
use Rattle.std.specs.Prelude.{List, ◌++◌, ◌≡◌, ℕ, ◌-◌, ◌≤◌, length, drop, replicate}
use Rattle.model.specs.declared.Model.{Model}
use Rattle.model.specs.declared.Thread.{Thread}
use Rattle.std.specs.Prelude.{None}
use Rattle.model.specs.Rules.{zero_rule}

-- Of 64 places those from n on are zero.
abbrev pub ZeroFrom : {A : Type 0} → A → ℕ → List A → Type 0
ZeroFrom zero n places = drop n places ≡ replicate (64 - n) zero

-- Of 64 places the first `count` are used, and the others are zero.
pub record Padded {A : Type 0} (zero : A) (count : ℕ) (places : List A) : Type 0 where
  pub low : count ≤ 64
  pub size : length places ≡ 64
  pub zeros : ZeroFrom zero count places

-- A list in 64 places, the others zero.
abbrev pub in_places : {A : Type 0} → A → List A → List A
in_places zero l = l ++ replicate (64 - length l) zero

-- The unused rule places of a thread are zero.
abbrev pub Unused : Thread → Type 0
Unused t = ZeroFrom zero_rule t.count t.rules

-- Eight bytes of marks that are all zero, so no rule is held.
abbrev pub no_marks : List ℕ
no_marks = replicate 8 0

-- A thread whose places are all zero.
abbrev pub zero_thread : Thread
zero_thread =
    record { symbols = 0; first = record { 0 = 0 }; top = None; held = no_marks; count = 0; rules = replicate 64 zero_rule }

-- A model whose places are all zero.
abbrev pub zero_model : Model
zero_model =
    record {
      g = 0;
      k = 0;
      start = record { 0 = 0 };
      target = record { 0 = 0 };
      a = zero_thread;
      b = zero_thread;
    }
