-- What replay answers is in range: a walk is refused by 9, 12 or 10, stays in the states below g and grows a stack by a symbol a step at
-- most, and what is refused before it has a number from 3 on.
use mathlib.Core.Bool.{Bool, true, false, not}
use mathlib.Core.List.{List, [], ◌∷◌}
use mathlib.Core.Path.{◌≡◌, refl}
use Prim.Native.Nat.{ℕ, zero, suc, ◌≤◌, ◌<◌}
use native.Mathlib.Omega.{arith}
use lib.Dec.{T}
use lib.ListN.{length}
use Rattle.model.specs.declared.Model.{Model}
use Rattle.model.specs.Fits.{Fits}
use Rattle.model.specs.Results.{Result, refused, accepted, need, and_then, unless, refuse, first_of}
use Rattle.model.specs.Rules.{applies}
use Rattle.model.specs.declared.ThreadId.TheVariants.{A, B}
use Rattle.model.specs.Schedules.{steps_of, most_steps}
use Rattle.model.specs.Valid.{Valid, fault_of}
use Rattle.model.specs.Walk.{Step, Config, Walked, turn_fits, turn_free, after, fire, made, step_from, walk, owner_of, thread_of, stack_of, start_of}
use Rattle.model.proofs.Checks.{both_pass}
use Rattle.model.proofs.Inside.{applies_iff, fits_of}
use Rattle.model.proofs.Ranges.{valid_fits}
use Rattle.model.proofs.Stores.{length_steps}
use Rattle.model.proofs.Tests.{tests}
use Rattle.replay.specs.declared.Replayed.{Replayed}
use Rattle.replay.specs.Replay.{size_fits, size_refusal, replayed_by, replay_of}
use Rattle.depths.proofs.Climbing.{legal, depth_most}

-- A walk is refused by a number up to a last one, or ends in a state below g.
abbrev pub WalkEnds : ℕ → ℕ → Walked → Type 0
WalkEnds last g (refused n) = (1 ≤ n) × (n ≤ last)
WalkEnds last g (accepted c) = c.shared < g

-- A test on the way refuses, or leaves the rest ..
pub tested : (last g n : ℕ) (b : Bool) (w : Walked) → 1 ≤ n → n ≤ last → WalkEnds last g w → WalkEnds last g (need n b w)
tested last g n true w h k e = e
tested last g n false w h k e = (h, k)

-- .. and a step refuses, or leaves those after it.
pub onward : (last g : ℕ) (x : Walked) (next : Config → Walked) → WalkEnds last g x
    → ((d : Config) → d.shared < g → WalkEnds last g (next d)) → WalkEnds last g (and_then x next)
onward last g (refused n) next e later = e
onward last g (accepted d) next e later = later d e

module _ {m : Model} (f : Fits m) (last : ℕ) (most : 12 ≤ last) where
  fired : (c : Config) (s : Step) (w : List ℕ) → WalkEnds last m.g (fire m c s w)
  unfolding fire
  fired c s [] = (omega arith, omega arith)
  fired c s (top ∷ w) = go (applies (thread_of (owner_of s.turn) m) s.rule c.shared top) (λ t. ((applies_iff _ _ _ _).0 t).listed)
    where
      go : (b : Bool) → (T b → s.rule < (thread_of (owner_of s.turn) m).count)
          → WalkEnds last m.g (need 10 b (accepted (after m c s w)))
      go true h = ((fits_of f (owner_of s.turn)).rules s.rule (h tt)).next
      go false h = (omega arith, omega arith)

  -- A step made in its turn is refused by 12 or 10.
  pub made_ends : (c : Config) (s : Step) → WalkEnds last m.g (made m c s)
  made_ends c s =
      tested last m.g 12 (turn_free c s) _ (omega arith) (omega arith) (fired c s (stack_of (owner_of s.turn) c.stacks))

-- A walk is refused by 9, 12 or 10.
walks : {m : Model} → Fits m → (ss : List Step) (c : Config) → c.shared < m.g → WalkEnds 12 m.g (walk m c ss)
unfolding walk step_from
walks {m} f [] c h = tested 12 m.g 12 (not c.held) (accepted c) (omega arith) (omega arith) h
walks {m} f (s ∷ ss) c h =
    onward 12 m.g (step_from m c s) (λ d. walk m d ss)
    (tested 12 m.g 9 (turn_fits m c s) _ (omega arith) (omega arith) (made_ends f 12 (omega arith) c s)) (λ d k. walks f ss d k)

-- What replay answers of a valid model: a refusal from 1 to 12, or a state below g and depths of at most 4,096.
abbrev pub Ends : ℕ → Result Replayed → Type 0
Ends g (refused n) = (1 ≤ n) × (n ≤ 12)
Ends g (accepted r) = (r.shared.0 < g) × (r.depths.a ≤ 4096) × (r.depths.b ≤ 4096)

-- A schedule whose size fits has at most 4,095 steps.
few_steps : (bytes : List ℕ) → T (size_fits bytes) → length (steps_of bytes) ≤ most_steps
unfolding size_fits
few_steps bytes h = let z = simp tests at h in omega (arith, length_steps bytes, z.1)

pub replay_ends : (m : Model) (bytes : List ℕ) → Valid m → Ends m.g (replay_of m bytes)
unfolding replay_of first_of
replay_ends m bytes v =
    let f = (valid_fits m).0 v in
    rw v (go (size_fits bytes) (few_steps bytes) (walk m (start_of m) (steps_of bytes)) refl (walks f (steps_of bytes) (start_of m) f.start))
  where
    go : (b : Bool) → (T b → length (steps_of bytes) ≤ most_steps) → (w : Walked) → walk m (start_of m) (steps_of bytes) ≡ w
        → WalkEnds 12 m.g w → Ends m.g (replayed_by m (steps_of bytes) (unless (first_of (refuse 8 b ∷ [])) w))
    go false few w e h = (omega arith, omega arith)
    go true few (refused n) e h = h
    go true few (accepted c) e h =
        let known = legal ((valid_fits m).0 v) e in
        (h, omega (arith, depth_most A known, few tt), omega (arith, depth_most B known, few tt))

-- Whatever the model, a refusal has a number.
pub refused_by : (m : Model) (bytes : List ℕ) {n : ℕ} → replay_of m bytes ≡ refused n → n ≡ 0 → ⊥
unfolding replay_of
refused_by m bytes {n} e z = go (size_refusal m bytes) refl
  where
    go : (k : ℕ) → size_refusal m bytes ≡ k → ⊥
    go zero d =
        let valid = ((both_pass (fault_of m) 7 (size_fits bytes)).0 d).0 in
        let low = rw e at (replay_ends m bytes valid) in
        omega (arith, low.0)
    go (suc k) d = let same : suc k ≡ n = cc in omega arith
