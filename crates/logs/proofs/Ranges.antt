-- What a log is answered is in range: its bytes are refused by 18, 12 or 10, stay in the states below g, and take at most one turn each.
use mathlib.Core.Bool.{Bool, true, false, not}
use mathlib.Core.List.{List, [], ◌∷◌}
use mathlib.Core.Path.{◌≡◌, refl}
use Prim.Native.Nat.{ℕ, ◌/◌, ◌%◌, ◌≤◌, ◌<◌}
use native.Mathlib.Omega.{arith}
use lib.Dec.{T, leb, eqb, leb→le}
use lib.ListN.{length}
use Rattle.model.specs.declared.Model.{Model}
use Rattle.model.specs.Fits.{Fits}
use Rattle.model.specs.Results.{Result, refused, accepted, unless, refuse, first_of}
use Rattle.model.specs.Schedules.{most_steps}
use Rattle.model.specs.Valid.{Valid}
use Rattle.model.specs.Walk.{Config, Walked, start_of}
use Rattle.model.proofs.Ranges.{valid_fits}
use Rattle.replay.proofs.Ranges.{WalkEnds, tested, onward, made_ends}
use Rattle.logs.specs.declared.Followed.{Followed}
use Rattle.logs.specs.Log.{step_by, byte_from, bytes_from, followed_by, followed_of}
use Rattle.logs.proofs.Bytes.{rounds_most}
use Rattle.logs.proofs.Placed.{turn_range}

bytes_end : {m : Model} → Fits m → (log : List ℕ) (c : Config) → c.shared < m.g → WalkEnds 18 m.g (bytes_from m c log)
unfolding bytes_from byte_from
bytes_end {m} f [] c h = tested 18 m.g 12 (not c.held) (accepted c) (omega arith) (omega arith) h
bytes_end {m} f (byte ∷ bytes) c h =
    onward 18 m.g (byte_from m c byte) (λ d. bytes_from m d bytes)
    (tested 18 m.g 18 (eqb (byte / 64 % 2) 0) _ (omega arith) (omega arith) (made_ends f 18 (omega arith) c (step_by c byte)))
    (λ d k. bytes_end f bytes d k)

-- The answer for a valid model: a refusal from 1 to 18, or a state below g and at most 2,048 rounds.
abbrev pub Ends : ℕ → Result Followed → Type 0
Ends g (refused n) = (1 ≤ n) × (n ≤ 18)
Ends g (accepted f) = (f.shared.0 < g) × (f.rounds ≤ 2048)

pub follow_ends : (m : Model) (log : List ℕ) → Valid m → Ends m.g (followed_of m log)
unfolding followed_of first_of
follow_ends m log v =
    let f = (valid_fits m).0 v in
    rw v
    (go (leb (length log) most_steps) (leb→le (length log) most_steps) (bytes_from m (start_of m) log) refl
    (bytes_end f log (start_of m) f.start))
  where
    go : (b : Bool) → (T b → length log ≤ most_steps) → (w : Walked) → bytes_from m (start_of m) log ≡ w → WalkEnds 18 m.g w
        → Ends m.g (followed_by (length log) (unless (first_of (refuse 18 b ∷ [])) w))
    go false few w e h = (omega arith, omega arith)
    go true few (refused n) e h = h
    go true few (accepted c) e h =
        (h, omega (arith, rounds_most (length log) c.turn, (turn_range m log (start_of m) e).1, few tt))
