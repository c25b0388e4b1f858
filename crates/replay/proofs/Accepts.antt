-- Replay accepts exactly the legal schedules: bytes of even length are the bytes of their steps, and a walk that is not
-- refused is a run.
use mathlib.Core.Bool.{Bool, false, not}
use mathlib.Core.List.{List, [], ◌∷◌}
use mathlib.Core.Logic.{◌↔◌}
use mathlib.Core.Path.{◌≡◌, refl, sym, ap}
use Prim.Native.Nat.{ℕ, ◌≤◌}
use native.Mathlib.Omega.{arith}
use lib.Dec.{T}
use lib.ListN.{length}
use Rattle.model.specs.declared.Depths.{Depths}
use Rattle.model.specs.declared.Model.{Model}
use Rattle.model.specs.Depths.{depths_of}
use Rattle.model.specs.declared.Shared.{Shared}
use Rattle.model.specs.Results.{refused, accepted, unless, first_of}
use Rattle.model.specs.Schedules.{bytes_of, steps_of}
use Rattle.model.specs.Valid.{fault_of}
use Rattle.model.specs.Walk.{Step, Config, Walked, start_of, step_from, walk, at_target}
use Rattle.model.proofs.Checks.{both_pass}
use Rattle.model.proofs.Results.{accepted_same, apart, checked, through, undue}
use Rattle.model.proofs.Stores.{length_bytes, steps_bytes, bytes_steps}
use Rattle.model.proofs.Tests.{tests, passed, negated}
use Rattle.replay.specs.declared.Replayed.{Replayed}
use Rattle.replay.specs.Replay.{size_fits, size_refusal, replayed_by, replay_of, Legally}

-- The bytes of at most 4,095 steps fit in size.
fits : (ss : List Step) → length ss ≤ 4095 → T (size_fits (bytes_of ss))
unfolding size_fits
fits ss h = simp tests (rw length_bytes (omega arith), rw length_bytes (omega arith))

-- What is accepted was walked to its last state.
walked : (m : Model) (ss : List Step) (w : Walked) {r : Replayed} → replayed_by m ss w ≡ accepted r
    → (c : Config) × (w ≡ accepted c) × (c.shared ≡ r.shared.0) × (r.reached ≡ at_target m r.shared.0 c.stacks) × (r.depths ≡ depths_of m ss)
walked m ss (refused n) e = apart e
walked m ss (accepted c) {r} e =
    let same : record { shared = record { 0 = c.shared }; reached = at_target m c.shared c.stacks; depths = depths_of m ss } ≡ r = accepted_same e in
    (c, refl, rw (← same) refl, rw (← same) refl, rw (← same) refl)

-- A walk that is not refused does not end after a held step.
pub free : (m : Model) (ss : List Step) (c : Config) {d : Config} → walk m c ss ≡ accepted d → d.held ≡ false
unfolding walk
free m [] c {d} e =
    checked 12 (not c.held) e λ t w.
    let same : c ≡ d = accepted_same w in
    rw same at ((negated c.held).0 t)
free m (s ∷ ss) c e =
    let gone = through (step_from m c s) (λ d. walk m d ss) e in
    free m ss gone.0 gone.2

-- Replay accepts exactly the legal schedules, with the last state of their runs and their depths.
pub accepts : (m : Model) (bs : List ℕ) (g : Shared) (reached : Bool) (depths : Depths)
    → (replay_of m bs ≡ accepted (record { shared = g; reached = reached; depths = depths })) ↔ Legally m bs g.0 reached depths
unfolding replay_of size_fits first_of
accepts m bs g reached depths = (to, from)
  where
    to : replay_of m bs ≡ accepted (record { shared = g; reached = reached; depths = depths }) → Legally m bs g.0 reached depths
    to e =
        let w = walked m (steps_of bs) (unless (size_refusal m bs) (walk m (start_of m) (steps_of bs))) e in
        let u = undue (size_refusal m bs) w.1 in
        let s = (both_pass (fault_of m) 7 (size_fits bs)).0 u.0 in
        let z = simp tests at s.1 in
        let same = bytes_steps bs z.0 in
        record {
          valid = s.0;
          steps = steps_of bs;
          written = sym same;
          most = omega (arith, length_bytes (steps_of bs), ap length same, z.1);
          stacks = w.0.stacks;
          leads = record { turn = w.0.turn; walked = rw (w.2, free m (steps_of bs) (start_of m) u.1) at u.1 };
          target = w.3;
          deep = w.4;
        }

    from : Legally m bs g.0 reached depths → replay_of m bs ≡ accepted (record { shared = g; reached = reached; depths = depths })
    from l =
        rw (
          l.valid,
          l.written,
          passed (size_fits (bytes_of l.steps)) (fits l.steps l.most),
          steps_bytes l.steps,
          l.leads.walked,
          l.target,
          l.deep,
        )
