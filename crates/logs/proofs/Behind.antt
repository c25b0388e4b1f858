-- However the steps of a log are placed, the log's own walk makes them too: it is at the same place, in a turn that is not later, and after
-- a held step in one of the same thread.
use mathlib.Core.Bool.{Bool, true, false, not, ◌||◌}
use mathlib.Core.List.{List, [], ◌∷◌}
use mathlib.Core.Path.{◌≡◌, refl, sym, ◌∙◌}
use Prim.Native.Nat.{ℕ, suc, ◌*◌, ◌/◌, ◌%◌, ◌≤◌, ◌<◌}
use native.Mathlib.Omega.{arith}
use borrow.Author.Tests.{eq-eqb}
use lib.Dec.{T, eqb, eqb→eq, eqb_refl}
use Rattle.model.specs.declared.Model.{Model}
use Rattle.model.specs.declared.ThreadId.{ThreadId}
use Rattle.model.specs.Results.{accepted}
use Rattle.model.specs.Walk.{owner_of, thread_of, Config, Step, turn_free, after, step_from, walk}
use Rattle.model.proofs.Inside.{applies_iff}
use Rattle.model.proofs.Results.{accepted_same, checked, through}
use Rattle.model.proofs.Steps.{Stepped, steps, stepped}
use Rattle.model.proofs.Tests.{passed}
use Rattle.logs.specs.Log.{earliest, byte_from, bytes_from}
use Rattle.logs.specs.Placings.{recorded, log_of, in_rounds}
use Rattle.logs.proofs.Bytes.{same_thread, made_step}
use Rattle.logs.proofs.Earliest.{not-before, right_parity, not_after, itself, same_owner}

-- The log's walk at c and a placing at d.
pub record Behind (c d : Config) : Type 0 where
  pub turn : c.turn ≤ d.turn
  pub held : c.held ≡ d.held
  pub shared : c.shared ≡ d.shared
  pub stacks : c.stacks ≡ d.stacks
  pub thread : d.held ≡ true → c.turn % 2 ≡ d.turn % 2

-- A step of a placing in the earliest turn of its thread.
abbrev sooner : Config → Step → Step
sooner c s = record { turn = earliest c.turn (s.turn % 2); rule = s.rule }

-- Where a placing leaves no turn after a held step, the log's walk does not either.
still_free : {c d : Config} (s : Step) → Behind c d → T (turn_free d s) → T (turn_free c (sooner c s))
unfolding turn_free
still_free {c} {d} s b f = rw b.held (go d.held refl f)
  where
    go : (held : Bool) → d.held ≡ held → T (not held || eqb d.turn s.turn) → T (not held || eqb c.turn (sooner c s).turn)
    go false e t = tt
    go true e t =
        let same : d.turn ≡ s.turn = eqb→eq _ _ t in
        let parity : c.turn % 2 ≡ s.turn % 2 = rw same at (b.thread e) in
        rw (itself c.turn s.turn parity) (eqb_refl c.turn)

-- With another number of rounds a step leads to the same configuration.
same_after : (n : ℕ) (m : Model) (c : Config) (s : Step) (below : List ℕ) → after (in_rounds n m) c s below ≡ after m c s below
same_after n m c s below = rw (same_thread n m (owner_of s.turn))

module _ (m : Model) (few : (i : ThreadId) → (thread_of i m).count ≤ 64) (r : ℕ) where
  -- The configuration after that step: that of the placing, but for the turn.
  sooner_step : {c d e : Config} (s : Step) → Behind c d → Stepped (in_rounds r m) d s e
      → Stepped (in_rounds (suc (sooner c s).turn) m) c (sooner c s)
      (record { turn = (sooner c s).turn; held = e.held; shared = e.shared; stacks = e.stacks })
  sooner_step {c} {d} {e} s b h =
      let t = (sooner c s).turn in
      let owner : owner_of t ≡ owner_of s.turn = same_owner t s.turn (right_parity c.turn (s.turn % 2) (omega arith)) in
      let come : e ≡ after m d s h.below = h.come ∙ same_after r m d s h.below in
      record {
        later = not-before c.turn (s.turn % 2);
        early = omega arith;
        free = still_free s b h.free;
        top = h.top;
        below = h.below;
        stack = rw (owner, b.stacks) h.stack;
        rule = rw (owner, b.shared, same_thread (suc t) m (owner_of s.turn)) (rw (same_thread r m (owner_of s.turn)) at h.rule);
        come = rw (come, same_after (suc t) m c (sooner c s) h.below, owner, b.stacks);
      }

  -- A step of a placing is recorded as a byte that the log's walk accepts ..
  one_behind : {c d e : Config} (s : Step) → Behind c d → step_from (in_rounds r m) d s ≡ accepted e
      → (x : Config) × (byte_from m c (recorded s) ≡ accepted x) × Behind x e
  unfolding byte_from
  one_behind {c} {d} {e} s b p =
      let h = stepped p in
      let listed = rw (same_thread r m (owner_of s.turn)) at ((applies_iff _ _ _ _).0 h.rule).listed in
      let low : s.rule < 64 = omega (arith, listed, few (owner_of s.turn)) in
      let high : recorded s / 128 ≡ s.turn % 2 = omega arith in
      let rule : recorded s % 64 ≡ s.rule = omega arith in
      let above : recorded s / 64 ≡ 2 * (s.turn % 2) = omega arith in
      let bit : recorded s / 64 % 2 ≡ 0 = rw above (omega arith) in
      let next = sooner c s in
      let step = steps (sooner_step s b h) in
      let same = made_step (suc next.turn) m c next (not-before c.turn (s.turn % 2)) (omega arith) in (
        record { turn = next.turn; held = e.held; shared = e.shared; stacks = e.stacks },
        rw (eq-eqb _ _ bit, high, rule) (sym same ∙ step),
        record {
          turn = rw h.come (not_after c.turn s.turn (omega (arith, b.turn, h.later)));
          held = refl;
          shared = refl;
          stacks = refl;
          thread = λ t. rw h.come (right_parity c.turn (s.turn % 2) (omega arith));
        },
      )

  -- .. and so are all of them.
  pub all_behind : (ss : List Step) (c d : Config) {e : Config} → Behind c d → walk (in_rounds r m) d ss ≡ accepted e
      → (x : Config) × (bytes_from m c (log_of ss) ≡ accepted x) × Behind x e
  unfolding bytes_from walk
  all_behind [] c d {e} b p =
      checked 12 (not d.held) p λ t f.
      let same : d ≡ e = accepted_same f in
      (c, rw (b.held, passed (not d.held) t), rw (← same) b)
  all_behind (s ∷ ss) c d b p =
      let gone = through (step_from (in_rounds r m) d s) (λ x. walk (in_rounds r m) x ss) p in
      let one = one_behind s b gone.1 in
      let rest = all_behind ss one.0 gone.0 one.2 gone.2 in
      (rest.0, rw one.1 rest.1, rest.2)
