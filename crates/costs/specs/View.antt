-- One thread's view of a run along a line: its own turns move from where the line puts it, the other's turns jump to the
-- line's next state.
use Rattle.std.specs.Prelude.{Bool, false, List, [], ◌∷◌, ◌≡◌, ℕ, suc, T}
use Rattle.model.specs.declared.Model.{Model}
use Rattle.model.specs.Tops.{Top}
use Rattle.model.specs.Rules.{rule_at, applies, put, held_at}
use Rattle.model.specs.declared.ThreadId.{ThreadId}
use Rattle.model.specs.Walk.{other, owner_of, thread_of, has_top, Step}

-- From a turn, whether the thread has just made a held step in it, a shared state and the thread's stack on, to a stack under a top that
-- will do: the line, and the thread's own steps.
pub data View (m : Model) (id : ThreadId) (top : Top) : ℕ → Bool → ℕ → List ℕ → List ℕ → List Step → Type 0 where
  -- the run stops after a turn
  stop : {t q : ℕ} {w : List ℕ} → T (has_top top w) → View m id top t false q w [] []
  -- a turn of the other thread, which ends where the line says
  skip : {t q o : ℕ} {w line : List ℕ} {ss : List Step} → owner_of t ≡ other id → View m id top (suc t) false o w line ss
      → View m id top t false q w (o ∷ line) ss
  -- the thread's own turn ends here, not after a held step
  end : {t q : ℕ} {w line : List ℕ} {ss : List Step} → owner_of t ≡ id → View m id top (suc t) false q w line ss
      → View m id top t false q w (q ∷ line) ss
  -- a step in the thread's own turn, which ends later on
  move : {t q r γ o : ℕ} {held : Bool} {w line : List ℕ} {ss : List Step} → owner_of t ≡ id → T (applies (thread_of id m) r q γ)
      → View m id top t (held_at (thread_of id m) r) (rule_at (thread_of id m) r).after.0 (put (rule_at (thread_of id m) r).right w)
      (o ∷ line) ss
      → View m id top t held q (γ ∷ w) (o ∷ line) (record { turn = t; rule = r } ∷ ss)
