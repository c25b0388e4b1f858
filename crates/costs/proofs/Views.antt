-- A run is two views of one line. In each turn the owner makes its steps, and the other thread's view is one `skip`, which
-- does not look at the shared state: so a run splits step by step, and two views join turn by turn. Whether a held step was just made is
-- the owner's to know: the other thread's view has no held step behind it.
use mathlib.Core.Bool.{Bool, false}
use mathlib.Core.List.{List, [], ◌∷◌}
use mathlib.Core.Logic.{◌↔◌}
use mathlib.Core.Path.{◌≡◌, refl, sym, ap, ◌∙◌}
use Prim.Native.Nat.{ℕ, suc, ◌+◌}
use native.Mathlib.Omega.{arith}
use lib.Dec.{T}
use lib.ListN.{length}
use Rattle.model.specs.declared.Model.{Model}
use Rattle.model.specs.Rules.{rule_at, applies, put, held_at}
use Rattle.model.specs.Runs.{Turns, stop, end, move, Marked, EndsUnder}
use Rattle.model.specs.Tops.{Top}
use Rattle.std.specs.Prelude.{None}
use Rattle.model.specs.declared.ThreadId.{ThreadId}
use Rattle.model.specs.declared.ThreadId.TheVariants.{A, B}
use Rattle.model.specs.Walk.{other, owner_of, thread_of, Stacks, stack_of, with_stack, start_stacks, has_top, under_tops, Step}
use Rattle.model.proofs.Tests.{both}
use Rattle.costs.specs.View.{View, stop, skip, end, move}

-- The steps of two lists in one, each list in its own order.
pub data Merged : List Step → List Step → List Step → Type 0 where
  none : Merged [] [] []
  left : {s : Step} {xs ys ss : List Step} → Merged xs ys ss → Merged (s ∷ xs) ys (s ∷ ss)
  right : {s : Step} {xs ys ss : List Step} → Merged xs ys ss → Merged xs (s ∷ ys) (s ∷ ss)

-- Merged lists in the other order.
swapped : {xs ys ss : List Step} → Merged xs ys ss → Merged ys xs ss
swapped none = none
swapped (left r) = right (swapped r)
swapped (right r) = left (swapped r)

-- Merging keeps the number of steps.
merged_length : {xs ys ss : List Step} → Merged xs ys ss → length ss ≡ length xs + length ys
merged_length none = refl
merged_length (left r) = omega (arith, merged_length r)
merged_length (right r) = omega (arith, merged_length r)

-- The two threads, in either order.
data Pair : ThreadId → ThreadId → Type 0 where
  ab : Pair A B
  ba : Pair B A

-- The two threads in the other order.
flip : {i j : ThreadId} → Pair i j → Pair j i
flip ab = ba
flip ba = ab

-- The second thread is the other one.
second : {i j : ThreadId} → Pair i j → other i ≡ j
second ab = refl
second ba = refl

-- A changed stack is the new one.
changed : (i : ThreadId) (w : List ℕ) (σ : Stacks) → stack_of i (with_stack i w σ) ≡ w
changed A w σ = refl
changed B w σ = refl

-- The other stack is kept.
kept : {i j : ThreadId} → Pair i j → (w : List ℕ) (σ : Stacks) → stack_of j (with_stack i w σ) ≡ stack_of j σ
kept ab w σ = refl
kept ba w σ = refl

-- A turn of the first thread is one of the other of the second.
others_turn : {i j : ThreadId} → Pair i j → (t : ℕ) → owner_of t ≡ i → owner_of t ≡ other j
others_turn p t e = e ∙ sym (second (flip p))

-- The second thread has the next turn.
next_turn_lem : {i j : ThreadId} → Pair i j → (t : ℕ) → owner_of t ≡ i → owner_of (suc t) ≡ j
next_turn_lem p t e = ap other e ∙ second p

-- No thread is the other one.
pub apart : (i : ThreadId) → i ≡ other i → ⊥
apart A e = let z : ◌≡◌ {A = ℕ} 0 1 = cc in omega arith
apart B e = let z : ◌≡◌ {A = ℕ} 0 1 = cc in omega arith

-- What holds of both threads holds of each.
each : {i j : ThreadId} (P : ThreadId → Type 0) → Pair i j → P i → P j → (k : ThreadId) → P k
each P ab p q A = p
each P ab p q B = q
each P ba p q A = q
each P ba p q B = p

-- Each stack has the top asked of its thread.
abbrev pub Under : (ThreadId → Top) → Stacks → Type 0
Under ask σ = (k : ThreadId) → T (has_top (ask k) (stack_of k σ))

-- The tops that a model asks for.
abbrev pub tops_of : Model → ThreadId → Top
tops_of m k = (thread_of k m).top

-- No top at all.
abbrev pub any_top : ThreadId → Top
any_top k = None

-- Stacks under the tops that a model asks for, as a test and thread by thread.
pub under_tops_lem : (m : Model) (σ : Stacks) → T (under_tops m σ) ↔ Under (tops_of m) σ
under_tops_lem m σ =
    let tests = both (has_top m.a.top σ.a) (has_top m.b.top σ.b) in
    (λ h. let t = tests.0 h in each (λ k. T (has_top (tops_of m k) (stack_of k σ))) ab t.0 t.1, λ h. tests.1 (h A, h B))

-- A's and B's views of one line, with these steps in all.
pub record Views (m : Model) (ask : ThreadId → Top) (t g : ℕ) (σ : Stacks) (line : List ℕ) (ss : List Step) : Type 0 where
  pub xs : List Step
  pub ys : List Step
  pub a : View m A (ask A) t false g σ.a line xs
  pub b : View m B (ask B) t false g σ.b line ys
  pub all : Merged xs ys ss
  pub steps : length xs + length ys ≡ length ss

-- The views of two threads, of which the first has the turn, and the steps of both.
record Both (m : Model) (ask : ThreadId → Top) (i j : ThreadId) (t : ℕ) (held : Bool) (g : ℕ) (σ : Stacks) (line : List ℕ)
    (ss : List Step) : Type 0 where
  mine : List Step
  theirs : List Step
  own : View m i (ask i) t held g (stack_of i σ) line mine
  others : View m j (ask j) t false g (stack_of j σ) line theirs
  merged : Merged mine theirs ss

-- A run with the steps of both views, to stacks under the tops of both.
pub record Joined (m : Model) (ask : ThreadId → Top) (t : ℕ) (held : Bool) (g : ℕ) (σ : Stacks) (line : List ℕ)
    (xs ys : List Step) : Type 0 where
  pub steps : List Step
  pub stacks : Stacks
  pub turns : Turns m t held g σ line steps stacks
  pub under : Under ask stacks
  pub merged : Merged xs ys steps

-- In a turn of the other thread a view is a skip.
pub skips : {m : Model} {j : ThreadId} {top : Top} {t g o : ℕ} {w line : List ℕ} {ss : List Step}
    → View m j top t false g w (o ∷ line) ss → owner_of t ≡ other j → View m j top (suc t) false o w line ss
skips (skip e r) h = r
skips {j} (end e r) h = absurd (apart j (sym e ∙ h))
skips {j} (move e p r) h = absurd (apart j (sym e ∙ h))

module _ {m : Model} (ask : ThreadId → Top) where
  -- The views in the other order, at the start of a turn.
  over : {i j : ThreadId} {t g : ℕ} {σ : Stacks} {line : List ℕ} {ss : List Step}
      → Both m ask i j t false g σ line ss → Both m ask j i t false g σ line ss
  over v =
      record { mine = v.theirs; theirs = v.mine; own = v.others; others = v.own; merged = swapped v.merged }

  -- The run of the views in the other order.
  joined_over : {t g : ℕ} {σ : Stacks} {line : List ℕ} {xs ys : List Step}
      → Joined m ask t false g σ line xs ys → Joined m ask t false g σ line ys xs
  joined_over r = record { steps = r.steps; stacks = r.stacks; turns = r.turns; under = r.under; merged = swapped r.merged }

  -- A run is the views of the thread that has the turn and of the other one.
  parted : {i j : ThreadId} {t g : ℕ} {held : Bool} {σ τ : Stacks} {line : List ℕ} {ss : List Step}
      → Turns m t held g σ line ss τ → Under ask τ → Pair i j → owner_of t ≡ i → Both m ask i j t held g σ line ss
  parted {i} {j} stop u p e = record { mine = []; theirs = []; own = stop (u i); others = stop (u j); merged = none }
  parted {i = i} {j = j} {t = t} (end r) u p e =
      let v = over (parted {i = j} r u (flip p) (next_turn_lem p t e)) in
      record {
        mine = v.mine;
        theirs = v.theirs;
        own = end e v.own;
        others = skip (others_turn p t e) v.others;
        merged = v.merged;
      }
  parted {t = t} (move {r = n} q h r) u p e =
      let v = rw e at (parted r u p e) in
      record {
        mine = record { turn = t; rule = n } ∷ v.mine;
        theirs = v.theirs;
        own = rw (rw e at q) (move e (rw e at h) (rw changed at v.own));
        others = skip (others_turn p t e) (skips (rw (kept p) at v.others) (others_turn p t e));
        merged = left v.merged;
      }

  -- A step of a run, made by the thread that has the turn.
  moves : {i : ThreadId} {t g r top o : ℕ} {held : Bool} {σ τ : Stacks} {w line : List ℕ} {ss : List Step}
      → owner_of t ≡ i → stack_of i σ ≡ top ∷ w → T (applies (thread_of i m) r g top)
      → Turns m t (held_at (thread_of i m) r) (rule_at (thread_of i m) r).after.0 (with_stack i (put (rule_at (thread_of i m) r).right w) σ)
      (o ∷ line) ss τ
      → Turns m t held g σ (o ∷ line) (record { turn = t; rule = r } ∷ ss) τ
  moves e q h r = move (rw (← e) at q) (rw (← e) at h) (rw (← e) at r)

  -- A turn: its owner's steps, and then the rest of the run.
  turn : {i j : ThreadId} {t g o : ℕ} {held : Bool} {w line : List ℕ} {xs ys : List Step} → View m i (ask i) t held g w (o ∷ line) xs
      → Pair i j → (σ : Stacks) → owner_of t ≡ i → stack_of i σ ≡ w
      → ((τ : Stacks) (zs : List Step) → stack_of j τ ≡ stack_of j σ → View m i (ask i) (suc t) false o (stack_of i τ) line zs
      → Joined m ask (suc t) false o τ line zs ys)
      → Joined m ask t held g σ (o ∷ line) xs ys
  turn {i} (skip h v) p σ e q go = absurd (apart i (sym e ∙ h))
  turn {xs = xs} (end h v) p σ e q go =
      let r = go σ xs refl (rw q v) in
      record { steps = r.steps; stacks = r.stacks; turns = end r.turns; under = r.under; merged = r.merged }
  turn {i} {t = t} (move {r = n} {w = w} h k v) p σ e q go =
      let τ = with_stack i (put (rule_at (thread_of i m) n).right w) σ in
      let r = turn v p τ e (changed i _ σ) (λ ρ zs s. go ρ zs (s ∙ kept p _ σ)) in
      record {
        steps = record { turn = t; rule = n } ∷ r.steps;
        stacks = r.stacks;
        turns = moves e q k r.turns;
        under = r.under;
        merged = left r.merged;
      }

  -- Two views without turns are the run that stops.
  stops : {i j : ThreadId} {t g : ℕ} (σ : Stacks) {u w : List ℕ} {xs ys : List Step} → Pair i j → stack_of i σ ≡ u → stack_of j σ ≡ w
      → View m i (ask i) t false g u [] xs → View m j (ask j) t false g w [] ys → Joined m ask t false g σ [] xs ys
  stops σ p e f (stop x) (stop y) =
      record { steps = []; stacks = σ; turns = stop; under = each (λ k. T (has_top (ask k) (stack_of k σ))) p (rw e x) (rw f y); merged = none }

  -- The views of the thread that has the turn and of the other one are a run.
  join : (line : List ℕ) {i j : ThreadId} {t g : ℕ} (σ : Stacks) {xs ys : List Step} → Pair i j → owner_of t ≡ i
      → View m i (ask i) t false g (stack_of i σ) line xs → View m j (ask j) t false g (stack_of j σ) line ys
      → Joined m ask t false g σ line xs ys
  join [] σ p e v w = stops σ p refl refl v w
  join (o ∷ line) {t = t} σ p e v w =
      turn v p σ e refl (λ τ zs s u.
      joined_over (join line τ (flip p) (next_turn_lem p t e) (rw s (skips w (others_turn p t e))) u))

  -- A run is A's and B's views, whichever has the turn.
  split_at : (i : ThreadId) {t g : ℕ} {σ τ : Stacks} {line : List ℕ} {ss : List Step} → owner_of t ≡ i
      → Turns m t false g σ line ss τ → Under ask τ → Both m ask A B t false g σ line ss
  split_at A e r u = parted r u ab e
  split_at B e r u = over (parted r u ba e)

  -- A's and B's views are a run, whichever has the turn.
  join_at : (i : ThreadId) {t g : ℕ} {σ : Stacks} {line : List ℕ} {xs ys : List Step} → owner_of t ≡ i
      → View m A (ask A) t false g σ.a line xs → View m B (ask B) t false g σ.b line ys → Joined m ask t false g σ line xs ys
  join_at A {σ = σ} {line = line} e v w = join line σ ab e v w
  join_at B {σ = σ} {line = line} e v w = joined_over (join line σ ba e w v)

  -- A run is both threads' views of its line, and their steps are the run's, each view's in its own order.
  pub views : {t g : ℕ} {σ τ : Stacks} {line : List ℕ} {ss : List Step} → Turns m t false g σ line ss τ → Under ask τ
      → Views m ask t g σ line ss
  views {t} r u =
      let v = split_at (owner_of t) refl r u in
      record { xs = v.mine; ys = v.theirs; a = v.own; b = v.others; all = v.merged; steps = sym (merged_length v.merged) }

  -- Two views of one line are a run, whose steps are theirs, each view's in its own order.
  pub merged_views : {t g : ℕ} {σ : Stacks} {line : List ℕ} {xs ys : List Step}
      → View m A (ask A) t false g σ.a line xs → View m B (ask B) t false g σ.b line ys → Joined m ask t false g σ line xs ys
  merged_views {t} v w = join_at (owner_of t) refl v w

-- A run to the tops that a model asks for is both threads' views of its line to them ..
pub under_views : {m : Model} {line : List ℕ} {ss : List Step} → EndsUnder m line ss
    → Views m (tops_of m) 0 m.start.0 (start_stacks m) line ss
under_views {m} (σ, r, h) = views (tops_of m) r ((under_tops_lem m σ).0 h)

-- .. and two such views are a run with as many steps as both.
pub joined_under : {m : Model} {line : List ℕ} {xs ys : List Step}
    → View m A m.a.top 0 false m.start.0 (m.a.first.0 ∷ []) line xs
    → View m B m.b.top 0 false m.start.0 (m.b.first.0 ∷ []) line ys
    → (ss : List Step) × EndsUnder m line ss × (length ss ≡ length xs + length ys)
joined_under {m} v w =
    let r = merged_views (tops_of m) {σ = start_stacks m} v w in
    (r.steps, (r.stacks, r.turns, (under_tops_lem m r.stacks).1 r.under), merged_length r.merged)

-- A line is marked exactly if both threads have views of it from the start, to any top.
pub marked_views : {m : Model} (line : List ℕ)
    → Marked m line ↔ (
    (xs : List Step) × (ys : List Step)
    × View m A None 0 false m.start.0 (m.a.first.0 ∷ []) line xs × View m B None 0 false m.start.0 (m.b.first.0 ∷ []) line ys
    )
marked_views {m} line = (
  λ r. let v = views any_top r.2 (λ k. tt) in (v.xs, v.ys, v.a, v.b),
  λ v. let r = merged_views any_top {σ = start_stacks m} v.2 v.3 in (r.steps, r.stacks, r.turns),
)
