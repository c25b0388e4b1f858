-- Every proved case has its claims: one test, computed over the whole table, and one law that turns the test of a case into
-- its claims. The test reads the record, replays the schedule, follows the log, and explores the model for the verdict and the lines.
use mathlib.Core.Bool.{Bool, true, false, ◌&&◌}
use mathlib.Core.List.{List, [], ◌∷◌}
use mathlib.Core.Path.{◌≡◌, refl, ap, ◌∙◌}
use Prim.Native.Nat.{ℕ, ◌*◌, ◌<◌}
use native.Mathlib.Omega.{arith}
use lib.Dec.{T, leb, ltb, eqb, ltb→lt}
use lib.ListN.{length, get_or}
use Rattle.model.specs.declared.Depths.{Depths}
use Rattle.model.specs.declared.Model.{Model}
use Rattle.model.specs.declared.Shared.{Shared}
use Rattle.model.specs.Bits.{all_zero, Bytes}
use Rattle.model.specs.Depths.{depth_from}
use Rattle.model.specs.Lines.{powers, digits}
use Rattle.model.specs.Order.{right_key, key_of, above}
use Rattle.model.specs.Results.{Result, refused, accepted, first_of}
use Rattle.model.specs.Rules.{applies}
use Rattle.model.specs.Schedules.{steps_of, most_steps}
use Rattle.model.specs.Valid.{Valid, symbol_fault, top_fault, right_fault, range_fault, fields_fault, head_fault, rule_fault, rules_fault, thread_fault}
use Rattle.model.specs.Valid.{free_from, mark_fault, marks_fault, used_fault, symbols_fault, cross_fault, fault_of}
use Rattle.model.specs.Verdict.{found, Judged}
use Rattle.model.specs.Walk.{walk, step_from, fire, turn_fits, turn_free}
use Rattle.model.proofs.Ranges.{valid_fits}
use Rattle.model.proofs.Table.{every, at}
use Rattle.model.proofs.Tests.{passed, both, equal, tests}
use Rattle.model.proofs.Stores.{length_bytes}
use Rattle.logs.specs.declared.Followed.{Followed}
use Rattle.logs.specs.Log.{earliest, byte_from, bytes_from, followed_of}
use Rattle.logs.proofs.Fewest.{fewest}
use Rattle.record.specs.Reader.{Read, read_of, parse_front, parse_head, parse_byte, parse_ranged, parse_field, parse_right, parse_rule, parse_rule_list, parse_rules}
use Rattle.record.specs.Reader.{parse_target, parse_top, parse_marks, parse_extras, parse_second}
use Rattle.replay.specs.declared.Replayed.{Replayed}
use Rattle.replay.specs.Replay.{replay_of, size_fits}
use Rattle.replay.proofs.Accepts.{accepts}
use Rattle.cases.specs.Cases.{cases}
use Rattle.cases.specs.Claims.{Table, ungiven, given, Answer, Refused, Clear, Found, Declined, Logged, Unlogged, Case}
use Rattle.cases.specs.Claims.{Scheduled, Lined, ClaimsOf, Claims}
use Rattle.cases.proofs.Explored.{grow, explored, closed}
use Rattle.cases.proofs.Abstracts.{Abstract, next}
use Rattle.cases.proofs.Search.{finds}
use Rattle.cases.proofs.Told.{avoids, delays, absent, followed, bit_right, bits_right, drawn, avoids_clear, delays_least, drawn_lines}

-- All numbers of a list are below 256 ..
small : List ℕ → Bool
small [] = true
small (b ∷ bs) = ltb b 256 && small bs

-- .. so they are bytes.
small_bytes : (l : List ℕ) → T (small l) → Bytes l
unfolding small
small_bytes [] h = tt
small_bytes (b ∷ bs) h =
    let w = (both (ltb b 256) (small bs)).0 h in (ltb→lt b 256 w.0, small_bytes bs w.1)

-- The bytes of a line table, if they are given, are right.
abbrev lines_right : Model → List Abstract → Table → Bool
lines_right m set ungiven = true
lines_right m set (given store) = drawn m set store

-- Replay accepts, with the target as the last state and these depths.
abbrev reaches : Shared → Depths → Result Replayed → Bool
reaches target d (accepted r) = eqb r.shared.0 target.0 && r.reached && eqb r.depths.a d.a && eqb r.depths.b d.b
reaches target d (refused n) = false

-- A log is accepted, with this state and these rounds ..
abbrev places : ℕ → ℕ → Result Followed → Bool
places q n (accepted f) = eqb f.shared.0 q && eqb f.rounds n
places q n (refused k) = false

-- .. or it is refused by this number, and so a schedule is.
abbrev declines : {A : Type 0} → ℕ → Result A → Bool
declines n (accepted a) = false
declines n (refused k) = eqb k n

-- The test of an answer for a model that was read.
judges : Model → Answer → Bool
judges m (Refused n) = false
judges m (Clear t) = let set = explored m 0 in closed m 0 set && avoids m set && lines_right m set t
judges m (Found n a b schedule t) =
    let set = explored m n in
    closed m n set && delays m n set && lines_right m set t && leb n most_steps && eqb (length schedule) (2 * n) &&
    reaches m.target (record { a = a; b = b }) (replay_of m schedule)
judges m (Declined schedule n) = declines n (replay_of m schedule)
judges m (Logged log q n) = small log && places q n (followed_of m log)
judges m (Unlogged log n) = declines n (followed_of m log)

-- The test of an answer for what reading came to.
comes : Read Model → Answer → Bool
comes (refused k) (Refused n) = eqb k n
comes (refused k) (Clear t) = false
comes (refused k) (Found n a b schedule t) = false
comes (refused k) (Declined schedule n) = false
comes (refused k) (Logged log q n) = false
comes (refused k) (Unlogged log n) = false
comes (accepted (m, [])) a = eqb (fault_of m) 0 && judges m a
comes (accepted (m, b ∷ rest)) a = false

-- The test of a case.
holds : Case → Bool
holds c = comes (read_of c.bytes) c.answer

-- The lines.
lines_right_lem : (m : Model) (limit : ℕ) (set : List Abstract) → T (closed m limit set) → (t : Table) → T (lines_right m set t)
    → Lined m t
lines_right_lem m limit set c ungiven h = tt
lines_right_lem m limit set c (given store) h = drawn_lines m limit set c store h

-- The replay.
reached_target : (target : Shared) (d : Depths) (r : Result Replayed) → T (reaches target d r)
    → r ≡ accepted (record { shared = target; reached = true; depths = d })
reached_target target d (accepted r) h =
    let w = simp tests at h in
    let same : r.shared ≡ target = ap {B = Shared} (λ n. record { 0 = n }) w.0.0.0 in
    let deep : r.depths ≡ d = rw (w.0.1, w.1) in
    ap accepted (rw (same, passed r.reached w.0.0.1, deep))
reached_target target d (refused n) h = absurd h

-- A log that is accepted, and a log or a schedule that is refused.
placed : (q n : ℕ) (f : Result Followed) → T (places q n f) → f ≡ accepted (record { shared = record { 0 = q }; rounds = n })
placed q n (accepted f) h =
    let w = simp tests at h in
    let same : f.shared ≡ record { 0 = q } = ap {B = Shared} (λ k. record { 0 = k }) w.0 in
    ap accepted (rw (same, w.1))
placed q n (refused k) h = absurd h

declined : {A : Type 0} (n : ℕ) (r : Result A) → T (declines n r) → r ≡ refused n
declined n (accepted a) h = absurd h
declined n (refused k) h = ap refused ((equal k n).0 h)

-- The schedule: what replay accepts is one, with two bytes a step.
scheduled : (m : Model) (n : ℕ) (d : Depths) (schedule : List ℕ) → length schedule ≡ 2 * n
    → T (reaches m.target d (replay_of m schedule)) → Scheduled m n d schedule
scheduled m n d schedule e h =
    let same = reached_target m.target d (replay_of m schedule) h in
    let l = (accepts m schedule m.target true d).0 same in (
      record {
        steps = l.steps;
        run = record { shared = m.target.0; stacks = l.stacks; leads = l.leads; target = rw (← l.target) tt };
        count = omega (arith, length_bytes l.steps, ap length l.written, e);
        shown = l.written;
      },
      same,
    )

-- The verdict, and all else that is claimed of a model that was read.
judged : (bytes : List ℕ) (m : Model) → read_of bytes ≡ accepted (m, []) → Valid m → (a : Answer) → T (judges m a) → ClaimsOf bytes a
unfolding judges
judged bytes m e v (Refused n) h = absurd h
judged bytes m e v (Clear t) h =
    let set : List Abstract = explored m 0 in
    let w = simp tests at h in
    let none = avoids_clear m 0 set w.0.0 ((valid_fits m).0 v).k.0 w.0.1 in
    record { model = m; read = e; valid = v; holds = (none, lines_right_lem m 0 set w.0.0 t w.1) }
judged bytes m e v (Found n a b schedule t) h =
    let set : List Abstract = explored m n in
    let w = simp tests at h in
    let c = w.0.0.0.0 in
    let s = scheduled m n (record { a = a; b = b }) schedule w.0.1 w.1 in
    let least = delays_least m n set c.0 n ((valid_fits m).0 v).k.0 c.1 in
    let shortest : Judged m (found n) =
    (w.0.0.1, record { schedule = s.0.steps; reaches = s.0.run; steps = s.0.count; least = least }) in
    record { model = m; read = e; valid = v; holds = (shortest, s, lines_right_lem m n set c.0 t w.0.0.0.1) }
judged bytes m e v (Declined schedule n) h = record { model = m; read = e; valid = v; holds = declined n (replay_of m schedule) h }
judged bytes m e v (Logged log q n) h =
    let w = (both (small log) (places q n (followed_of m log))).0 h in
    let same = placed q n (followed_of m log) w.1 in
    record { model = m; read = e; valid = v; holds = ((fewest m log (record { 0 = q }) n (small_bytes log w.0)).0 same, same) }
judged bytes m e v (Unlogged log n) h = record { model = m; read = e; valid = v; holds = declined n (followed_of m log) h }

-- The record.
come : (bytes : List ℕ) (r : Read Model) → read_of bytes ≡ r → (a : Answer) → T (comes r a) → ClaimsOf bytes a
unfolding comes
come bytes (refused k) e (Refused n) h = e ∙ ap refused ((equal k n).0 h)
come bytes (refused k) e (Clear t) h = absurd h
come bytes (refused k) e (Found n a b schedule t) h = absurd h
come bytes (refused k) e (Declined schedule n) h = absurd h
come bytes (refused k) e (Logged log q n) h = absurd h
come bytes (refused k) e (Unlogged log n) h = absurd h
come bytes (accepted (m, [])) e a h =
    let w = (both (eqb (fault_of m) 0) (judges m a)).0 h in judged bytes m e ((equal (fault_of m) 0).0 w.0) a w.1
come bytes (accepted (m, b ∷ rest)) e a h = absurd h

-- A case whose test passes has its claims.
claimed : (c : Case) → T (holds c) → Claims c
unfolding holds
claimed c t = come c.bytes (read_of c.bytes) refl c.answer t

all_hold : T (every (λ i. holds) cases)
unfolding cases holds comes judges small earliest byte_from bytes_from followed_of read_of parse_front parse_head parse_byte parse_ranged parse_field parse_right parse_rule parse_rule_list parse_rules parse_target parse_top parse_marks parse_extras parse_second all_zero explored grow closed next avoids delays absent followed bit_right bits_right drawn finds powers digits applies replay_of steps_of size_fits walk step_from fire turn_fits turn_free depth_from fault_of head_fault range_fault fields_fault top_fault thread_fault rules_fault above key_of right_key rule_fault right_fault symbol_fault cross_fault marks_fault mark_fault free_from symbols_fault used_fault first_of
all_hold = tt

-- Every case of the table has its claims.
pub tried : (i : ℕ) (d : Case) → i < length cases → Claims (get_or cases i d)
tried i d h = claimed (get_or cases i d) (at (λ j. holds) cases all_hold i d h)
