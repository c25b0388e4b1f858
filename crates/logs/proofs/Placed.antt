-- A log that is accepted has a placing: its steps in the turns in which they were made, which never fall.
use mathlib.Core.Bool.{not}
use mathlib.Core.List.{List, [], ◌∷◌}
use mathlib.Core.Path.{◌≡◌, refl, ◌∙◌}
use Prim.Native.Nat.{ℕ, ◌+◌, ◌*◌, ◌/◌, ◌≤◌, ◌<◌}
use native.Mathlib.Omega.{arith}
use lib.ListN.{length}
use Rattle.model.specs.declared.Model.{Model}
use Rattle.model.specs.Bits.{Bytes}
use Rattle.model.specs.Results.{accepted}
use Rattle.model.specs.Walk.{Config, Step, walk}
use Rattle.model.proofs.Results.{accepted_same, checked, through}
use Rattle.logs.specs.Log.{step_by, byte_from, bytes_from, rounds_by}
use Rattle.logs.specs.Placings.{log_of, in_rounds}
use Rattle.logs.proofs.Bytes.{made_step, taken, rounds_most}
use Rattle.logs.proofs.Earliest.{not-before, next_most, recorded_back}

module _ (m : Model) where
  -- No turn is before the one at which a log begins, and each byte takes at most one turn.
  pub turn_range : (log : List ℕ) (c : Config) {d : Config} → bytes_from m c log ≡ accepted d
      → (c.turn ≤ d.turn) × (d.turn ≤ c.turn + length log)
  unfolding bytes_from
  turn_range [] c {d} e =
      checked 12 (not c.held) e λ t f.
      let same : c ≡ d = accepted_same f in
      rw same (omega arith, omega arith)
  turn_range (byte ∷ bytes) c e =
      let gone = through (byte_from m c byte) (λ d. bytes_from m d bytes) e in
      let t = (taken m c byte gone.1).turn in
      let rest = turn_range bytes gone.0 gone.2 in
      let early = not-before c.turn (byte / 128) in
      let late = next_most c.turn (byte / 128) in
      (omega (arith, t, rest.0, early), omega (arith, t, rest.1, late))

  -- The steps with their turns are a walk with as many rounds as the log takes, and they have this log.
  pub placed : (n : ℕ) (log : List ℕ) (c : Config) {d : Config} → Bytes log → bytes_from m c log ≡ accepted d
      → rounds_by (length log) d.turn ≤ n
      → (ss : List Step) × (log_of ss ≡ log) × (walk (in_rounds n m) c ss ≡ accepted d)
  unfolding bytes_from walk
  placed n [] c small e h = ([], refl, e)
  placed n (byte ∷ bytes) c {d} small e h =
      let gone = through (byte_from m c byte) (λ x. bytes_from m x bytes) e in
      let t = taken m c byte gone.1 in
      let s = step_by c byte in
      let last : gone.0.turn ≤ d.turn = (turn_range bytes gone.0 gone.2).0 in
      let early : s.turn < 2 * n = omega (arith, t.turn, last, h) in
      let low = rounds_most (length bytes) d.turn in
      let rest = placed n bytes gone.0 small.1 gone.2 (omega (arith, low, h)) in
      let step = made_step n m c s (not-before c.turn (byte / 128)) early ∙ t.made in
      (s ∷ rest.0, rw (recorded_back c byte small.0 t.low, rest.1), rw step rest.2)
