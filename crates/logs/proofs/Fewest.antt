-- A log is accepted exactly if it has a placing, and with the fewest rounds of any: the turns of its own placing are the earliest. A placing
-- within K rounds is a schedule that replay accepts, since more rounds take no step away.
use mathlib.Core.Bool.{Bool, not}
use mathlib.Core.List.{List, [], ◌∷◌}
use mathlib.Core.Logic.{◌↔◌}
use mathlib.Core.Path.{◌≡◌, refl, sym, ap, ◌∙◌}
use Prim.Native.Nat.{ℕ, zero, suc, ◌*◌, ◌≤◌, ◌<◌}
use native.Mathlib.Omega.{arith}
use borrow.Author.Tests.{le-leb}
use lib.Dec.{leb, leb→le}
use lib.ListN.{length}
use Rattle.model.specs.declared.Model.{Model}
use Rattle.model.specs.declared.Shared.{Shared}
use Rattle.model.specs.declared.ThreadId.{ThreadId}
use Rattle.model.specs.Bits.{Bytes}
use Rattle.model.specs.Depths.{depths_of}
use Rattle.model.specs.Results.{refused, accepted, unless, first_of}
use Rattle.model.specs.Runs.{Leads}
use Rattle.model.specs.Schedules.{bytes_of, most_steps}
use Rattle.model.specs.Valid.{Valid, fault_of}
use Rattle.model.specs.Walk.{thread_of, Config, Step, Walked, start_of, step_from, walk, at_target}
use Rattle.model.proofs.Checks.{both_pass}
use Rattle.model.proofs.Inside.{fits_of}
use Rattle.model.proofs.Ranges.{valid_fits}
use Rattle.model.proofs.Results.{accepted_same, apart, checked, through, undue}
use Rattle.model.proofs.Steps.{stepped}
use Rattle.replay.specs.Replay.{replay_of}
use Rattle.replay.proofs.Accepts.{accepts, free}
use Rattle.logs.specs.declared.Followed.{Followed}
use Rattle.logs.specs.Log.{bytes_from, rounds_by, size_refusal, followed_by, followed_of}
use Rattle.logs.specs.Placings.{log_of, in_rounds, Placing, Fewest}
use Rattle.logs.proofs.Behind.{Behind, all_behind}
use Rattle.logs.proofs.Bytes.{made_step}
use Rattle.logs.proofs.Placed.{placed}

-- The log of a schedule has a byte for each step.
length_log : (ss : List Step) → length (log_of ss) ≡ length ss
length_log [] = refl
length_log (s ∷ ss) = ap suc (length_log ss)

-- The rounds of a log grow with its last turn.
rounds_grow : (n : ℕ) {t u : ℕ} → t ≤ u → rounds_by n t ≤ rounds_by n u
rounds_grow zero h = omega arith
rounds_grow (suc n) h = omega arith

-- A walk within K rounds ends in a turn below 2K where it has a step, or begins in one ..
ends_below : (m : Model) (ss : List Step) (c : Config) {d : Config} → c.turn < 2 * m.k → walk m c ss ≡ accepted d → d.turn < 2 * m.k
unfolding walk
ends_below m [] c {d} h e = checked 12 (not c.held) e λ t f.
    let same : c ≡ d = accepted_same f in
    rw (← same) h
ends_below m (s ∷ ss) c h e =
    let gone = through (step_from m c s) (λ x. walk m x ss) e in
    let p = stepped gone.1 in
    ends_below m ss gone.0 (rw p.come p.early) gone.2

-- .. so its log takes no more.
within : (m : Model) (ss : List Step) (c : Config) {d : Config} → walk m c ss ≡ accepted d → rounds_by (length (log_of ss)) d.turn ≤ m.k
unfolding walk
within m [] c e = omega arith
within m (s ∷ ss) c e =
    let gone = through (step_from m c s) (λ x. walk m x ss) e in
    let p = stepped gone.1 in
    omega (arith, ends_below m ss gone.0 (rw p.come p.early) gone.2)

-- What is accepted was followed to its last state.
followed_to : (n : ℕ) (w : Walked) {f : Followed} → followed_by n w ≡ accepted f
    → (c : Config) × (w ≡ accepted c) × (c.shared ≡ f.shared.0) × (rounds_by n c.turn ≡ f.rounds)
followed_to n (refused j) e = apart e
followed_to n (accepted c) {f} e =
    let same : record { shared = record { 0 = c.shared }; rounds = rounds_by n c.turn } ≡ f = accepted_same e in
    (c, refl, rw (← same) refl, rw (← same) refl)

-- A walk from the start leads to its last state.
leads_to : (m : Model) (ss : List Step) {d : Config} {q : ℕ} → walk m (start_of m) ss ≡ accepted d → d.shared ≡ q → Leads m ss q d.stacks
leads_to m ss {d} e s = record { turn = d.turn; walked = rw (s, free m ss (start_of m) e) at e }

-- The start is behind itself.
at_start : (m : Model) → Behind (start_of m) (start_of m)
at_start m = record { turn = omega arith; held = refl; shared = refl; stacks = refl; thread = λ t. refl }

-- A valid model has at most 64 rules a thread.
few : (m : Model) → Valid m → (i : ThreadId) → (thread_of i m).count ≤ 64
few m v i = (fits_of ((valid_fits m).0 v) i).count

-- Every placing is followed to where it leads, within as many rounds.
module _ (m : Model) (log : List ℕ) (v : Valid m) {r p : ℕ} {ss : List Step} (x : Placing m log r ss p) where
  pub follows : (c : Config) × (bytes_from m (start_of m) log ≡ accepted c) × (c.shared ≡ p) × (rounds_by (length log) c.turn ≤ r)
  follows =
      let b = all_behind m (few m v) r ss (start_of m) (start_of m) (at_start m) x.leads.walked in
      let last = within (in_rounds r m) ss (start_of m) x.leads.walked in
      let later = rounds_grow (length (log_of ss)) b.2.turn in
      let most : rounds_by (length (log_of ss)) b.0.turn ≤ r = omega (arith, last, later) in
      (b.0, rw x.logged at b.1, b.2.shared, rw x.logged at most)

-- What is accepted has a placing in so many rounds, and all placings agree with it ..
accepted_fewest : (m : Model) (log : List ℕ) (q : Shared) (n : ℕ) → Bytes log → followed_of m log ≡ accepted (record { shared = q; rounds = n }) → Fewest m log q.0 n
unfolding followed_of first_of
accepted_fewest m log q n small e =
    let w = followed_to (length log) (unless (size_refusal m log) (bytes_from m (start_of m) log)) e in
    let u = undue (size_refusal m log) w.1 in
    let s = (both_pass (fault_of m) 17 (leb (length log) most_steps)).0 u.0 in
    let own = placed m n log (start_of m) small u.1 (omega (arith, w.3)) in
    record {
      valid = s.0;
      most = leb→le (length log) most_steps s.1;
      steps = own.0;
      placing =
          record {
            logged = own.1;
            stacks = w.0.stacks;
            leads = leads_to (in_rounds n m) own.0 own.2 w.2;
          };
      least = λ r ss p x.
          let f = follows m log s.0 x in
          let same : f.0 ≡ w.0 = accepted_same (sym f.1 ∙ u.1) in
          let few : rounds_by (length log) w.0.turn ≤ r = rw same at f.3 in
          (omega (arith, few, w.3), sym f.2 ∙ (ap (λ (c : Config). c.shared) same ∙ w.2));
    }

-- .. and a log with a placing is accepted.
fewest_accepted : (m : Model) (log : List ℕ) (q : Shared) (n : ℕ) → Bytes log → Fewest m log q.0 n → followed_of m log ≡ accepted (record { shared = q; rounds = n })
unfolding followed_of first_of
fewest_accepted m log q n small f =
    let g = follows m log f.valid f.placing in
    let rounds = rounds_by (length log) g.0.turn in
    let taken : followed_of m log ≡ accepted (record { shared = record { 0 = g.0.shared }; rounds = rounds }) = rw (f.valid, le-leb _ _ f.most, g.1) in
    let own = accepted_fewest m log (record { 0 = g.0.shared }) rounds small taken in
    let less : n ≤ rounds = (f.least rounds own.steps g.0.shared own.placing).0 in
    let same : rounds ≡ n = omega (arith, less, g.3) in
    taken ∙ rw (g.2, same)

-- A log, whose numbers are bytes as its type says, is accepted exactly where it has placings: with the state that all of them lead to, and
-- with the rounds of one of which no other has fewer.
pub fewest : (m : Model) (log : List ℕ) (q : Shared) (n : ℕ) → Bytes log → (followed_of m log ≡ accepted (record { shared = q; rounds = n })) ↔ Fewest m log q.0 n
fewest m log q n small = (accepted_fewest m log q n small, fewest_accepted m log q n small)

-- A walk within n rounds is one within more.
wider : (m : Model) (n : ℕ) (ss : List Step) (c : Config) {d : Config} → n ≤ m.k → walk (in_rounds n m) c ss ≡ accepted d
    → walk m c ss ≡ accepted d
unfolding walk
wider m n [] c h e = e
wider m n (s ∷ ss) c h e =
    let gone = through (step_from (in_rounds n m) c s) (λ x. walk (in_rounds n m) x ss) e in
    let p = stepped gone.1 in
    let late : s.turn < 2 * m.k = omega (arith, p.early) in
    let same = made_step m.k m c s p.later late ∙ sym (made_step n m c s p.later p.early) in
    let step : step_from m c s ≡ accepted gone.0 = same ∙ gone.1 in
    rw step (wider m n ss gone.0 h gone.2)

-- A placing of an accepted log within K rounds is a schedule that replay accepts, with the same last state.
pub replays : {m : Model} {log : List ℕ} {n q : ℕ} {ss : List Step} → Valid m → length log ≤ most_steps
    → (x : Placing m log n ss q) → n ≤ m.k
    → replay_of m (bytes_of ss)
    ≡ accepted (record { shared = record { 0 = q }; reached = at_target m q x.stacks; depths = depths_of m ss })
replays {m} {log} {n} {q} {ss} v h x k =
    (accepts m (bytes_of ss) (record { 0 = q }) (at_target m q x.stacks) (depths_of m ss)).1 (record {
      valid = v;
      steps = ss;
      written = refl;
      most = omega (arith, h, length_log ss, ap length x.logged);
      stacks = x.stacks;
      leads = record { turn = x.leads.turn; walked = wider m n ss (start_of m) k x.leads.walked };
      target = refl;
      deep = refl;
    })

-- So a log that takes at most K rounds has a placing that replay accepts, with the state that was given for the log.
pub log_replays : (m : Model) (log : List ℕ) (q : Shared) (n : ℕ) → Bytes log → followed_of m log ≡ accepted (record { shared = q; rounds = n }) → n ≤ m.k
    → (ss : List Step) × (log_of ss ≡ log) × (reached : Bool) × (replay_of m (bytes_of ss) ≡ accepted (record { shared = q; reached = reached; depths = depths_of m ss }))
log_replays m log q n small e k =
    let f = accepted_fewest m log q n small e in
    let x = f.placing in
    (f.steps, x.logged, at_target m q.0 x.stacks, replays f.valid f.most x k)
