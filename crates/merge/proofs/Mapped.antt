-- A run of a part is a run of the whole: each of its steps is made there in the same turn by the same rule, under the number the rule has
-- there, and comes to the same configuration.
use mathlib.Core.List.{List, [], ◌∷◌}
use mathlib.Core.Path.{◌≡◌, refl}
use lib.ListN.{length}
use Rattle.model.specs.declared.Model.{Model}
use Rattle.model.specs.declared.ThreadId.TheVariants.{A, B}
use Rattle.model.specs.declared.ThreadId.{ThreadId}
use Rattle.model.specs.Results.{accepted}
use Rattle.model.specs.Runs.{Reaches}
use Rattle.model.specs.Walk.{owner_of, thread_of, Config, Step, start_of, turn_free, step_from, walk}
use Rattle.model.proofs.Inside.{Applies, applies_iff}
use Rattle.model.proofs.Results.{through}
use Rattle.model.proofs.Steps.{Stepped, steps, stepped}
use Rattle.merge.specs.Parts.{ThreadPart, Part}

module _ {m whole : Model} (p : Part m whole) where
  -- Each thread is a part of the whole's.
  thread_of_lem : (i : ThreadId) → ThreadPart (thread_of i m) (thread_of i whole)
  thread_of_lem A = p.a
  thread_of_lem B = p.b

  -- A step of the part is a step of the whole, and comes to the same configuration.
  mapped_step : {c d : Config} {s : Step} → Stepped m c s d → (u : Step) × Stepped whole c u d
  unfolding turn_free
  mapped_step {c} {d} {s} h =
      let i = owner_of s.turn in
      let a = (applies_iff (thread_of i m) s.rule c.shared h.top).0 h.rule in
      let x = (thread_of_lem i).rules s.rule a.listed in
      let applied : Applies (thread_of i whole) x.number c.shared h.top =
      record { listed = x.listed; state = rw x.rule a.state; symbol = rw x.rule a.symbol } in (
        record { turn = s.turn; rule = x.number },
        record {
          later = h.later;
          early = rw (← p.k) h.early;
          free = h.free;
          top = h.top;
          below = h.below;
          stack = h.stack;
          rule = (applies_iff (thread_of i whole) x.number c.shared h.top).1 applied;
          come = rw (x.rule, x.held) h.come;
        },
      )

  -- A walk of the part is a walk of the whole, of as many steps.
  mapped_walk : (ss : List Step) (c : Config) {d : Config} → walk m c ss ≡ accepted d
      → (ts : List Step) × (walk whole c ts ≡ accepted d) × (length ts ≡ length ss)
  unfolding walk
  mapped_walk [] c e = ([], e, refl)
  mapped_walk (s ∷ ss) c e =
      let gone = through (step_from m c s) (λ d. walk m d ss) e in
      let first = mapped_step (stepped gone.1) in
      let rest = mapped_walk ss gone.0 gone.2 in
      (first.0 ∷ rest.0, rw (steps first.1) rest.1, rw rest.2)

  -- Both start alike.
  same_start : start_of m ≡ start_of whole
  same_start = rw (p.start, p.a.first, p.b.first)

  -- A run of the part that reaches the target is one of the whole, of as many steps.
  pub part_reaches : {ss : List Step} → Reaches m ss → (ts : List Step) × Reaches whole ts × (length ts ≡ length ss)
  part_reaches {ss} r =
      let w = mapped_walk ss (start_of m) r.leads.walked in (
        w.0,
        record {
          shared = r.shared;
          stacks = r.stacks;
          leads = record { turn = r.leads.turn; walked = rw (← same_start) w.1 };
          target = rw (p.target, p.a.top, p.b.top) at r.target;
        },
        w.2,
      )
