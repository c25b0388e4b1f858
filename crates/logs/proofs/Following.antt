-- A log walked byte by byte: what is left of it is the next byte and the rest, until none is left; each stack grows by at most one symbol a
-- byte, and the turn by at most one.
use mathlib.Core.Bool.{true, false}
use mathlib.Core.List.{List}
use mathlib.Core.Path.{◌≡◌, sym, ◌∙◌}
use Prim.Native.Nat.{ℕ, ◌+◌, ◌/◌, ◌<◌, ◌≤◌}
use native.Mathlib.Numerals.{add-one}
use native.Mathlib.Omega.{arith}
use lib.ListN.{length, drop, get_or, drop_of_length-le}
use lib.Seq.{drop-cons}
use Rattle.model.specs.declared.Model.{Model}
use Rattle.model.specs.Results.{refused, accepted}
use Rattle.walk.specs.declared.Walk.{Walk}
use Rattle.walk.specs.Stack.{config_of}
use Rattle.logs.specs.Log.{byte_from, bytes_from}
use Rattle.logs.proofs.Bytes.{taken}
use Rattle.logs.proofs.Earliest.{next_most}

-- Where the walk is before byte i, and that the rest of the log comes to what the whole does.
pub record Going (m : Model) (l : List ℕ) (w : Walk) (a b : List ℕ) (v : Walk) (c d : List ℕ) (i : ℕ) : Type 0 where
  pub place : i ≤ length l
  pub one : v.a ≤ w.a + i
  pub two : v.b ≤ w.b + i
  pub turn : v.turn ≤ w.turn + i
  pub rest : bytes_from m (config_of w a b) l ≡ bytes_from m (config_of v c d) (drop i l)

module _ {m : Model} {l : List ℕ} {w : Walk} {a b : List ℕ} {v : Walk} {c d : List ℕ} {i : ℕ}
    (g : Going m l w a b v c d i) where
  -- A byte that is accepted leaves the others ..
  pub goes_on : i < length l → {u : Walk} {c' d' : List ℕ}
      → accepted (config_of u c' d') ≡ byte_from m (config_of v c d) (get_or l i 0)
      → (u.a ≤ v.a + 1) × (u.b ≤ v.b + 1)
      → Going m l w a b u c' d' (i + 1)
  unfolding bytes_from
  goes_on h {u} {c'} {d'} p k =
      let t = (taken m (config_of v c d) (get_or l i 0) (sym p)).turn in
      record {
        place = omega arith;
        one = omega arith;
        two = omega arith;
        turn = omega (arith, t, next_most v.turn (get_or l i 0 / 128), g.turn);
        rest = g.rest ∙ rw (drop-cons l i 0 h, ← p, add-one);
      }

  -- .. one that is refused is the answer ..
  pub stops : i < length l → {n : ℕ} → refused n ≡ byte_from m (config_of v c d) (get_or l i 0)
      → refused n ≡ bytes_from m (config_of w a b) l
  unfolding bytes_from
  stops h p = rw (g.rest, drop-cons l i 0 h, ← p)

  -- .. and past the last the log ends, and not after a held step.
  pub ends_held : length l ≤ i → v.held ≡ true → refused 12 ≡ bytes_from m (config_of w a b) l
  unfolding bytes_from
  ends_held h f = rw (g.rest, drop_of_length-le l h, f)

  pub ends : length l ≤ i → v.held ≡ false → accepted (config_of v c d) ≡ bytes_from m (config_of w a b) l
  unfolding bytes_from
  ends h f = rw (g.rest, drop_of_length-le l h, f)
