-- Replay: what the walk of a schedule given as bytes comes to, with the number of each refusal.
use Rattle.std.specs.Prelude.{Bool, ◌&&◌, List, [], ◌∷◌, ◌≡◌, ℕ, ◌%◌, ◌≤◌, leb, eqb, length}
use Rattle.model.specs.declared.Depths.{Depths}
use Rattle.model.specs.declared.Model.{Model}
use Rattle.model.specs.Depths.{depths_of}
use Rattle.model.specs.Results.{Result, refused, accepted, unless, refuse, first_of}
use Rattle.model.specs.Runs.{Leads}
use Rattle.model.specs.Schedules.{bytes_of, steps_of, most_bytes, most_steps}
use Rattle.model.specs.Valid.{Valid, fault_of}
use Rattle.model.specs.Walk.{Stacks, Step, Walked, start_of, walk, at_target}
use Rattle.replay.specs.declared.Replayed.{Replayed}

-- The bytes are whole steps, and no more of them than a schedule may have.
unfoldable pub size_fits : List ℕ → Bool
size_fits bytes = eqb (length bytes % 2) 0 && leb (length bytes) most_bytes

-- What is refused before the walk, in order: the model's fault (3, 4, 13 or 11), then the schedule's size (8); 0 for nothing.
abbrev pub size_refusal : Model → List ℕ → ℕ
size_refusal m bytes = first_of (fault_of m ∷ refuse 8 (size_fits bytes) ∷ [])

-- What the walk of a schedule says by its end: the last shared state, whether the run ends at the target, and the depths of its stacks; or
-- the refusal, the walk's being 9, 12 or 10.
abbrev pub replayed_by : Model → List Step → Walked → Result Replayed
replayed_by m ss (refused n) = refused n
replayed_by m ss (accepted c) =
    accepted (record {
      shared = record { 0 = c.shared };
      reached = at_target m c.shared c.stacks;
      depths = depths_of m ss;
    })

-- The answer: what is refused before the walk, or what the walk from the start comes to.
unfoldable pub replay_of : Model → List ℕ → Result Replayed
replay_of m bytes = replayed_by m (steps_of bytes) (unless (size_refusal m bytes) (walk m (start_of m) (steps_of bytes)))

-- Bytes are a legal schedule of at most 4,095 steps of a valid model, whose last shared state is q; `reached` says whether its run
-- ends at the target, under the tops that are named, and its stacks get so deep. Replay accepts just those (a law).
pub record Legally (m : Model) (bytes : List ℕ) (q : ℕ) (reached : Bool) (depths : Depths) : Type 0 where
  pub valid : Valid m
  pub steps : List Step
  pub written : bytes ≡ bytes_of steps
  pub most : length steps ≤ most_steps
  pub stacks : Stacks
  pub leads : Leads m steps q stacks
  pub target : reached ≡ at_target m q stacks
  pub deep : depths ≡ depths_of m steps
