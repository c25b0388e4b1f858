-- Unused rule places change nothing: a rule that applies is in the list, so models that are the same make the same walks
-- and runs, as deep, and have the same marked lines and the same verdict.
use mathlib.Core.Bool.{Bool}
use mathlib.Core.List.{List, [], ◌∷◌}
use mathlib.Core.Path.{◌≡◌, refl, sym, fun_ext}
use Prim.Native.Nat.{ℕ, suc, ◌<◌}
use native.Mathlib.Decide.{dec_lt}
use native.Mathlib.Omega.{arith}
use borrow.Author.Tests.{le-ltb}
use Rattle.model.specs.declared.Model.{Model}
use Rattle.model.specs.declared.Thread.{Thread}
use Rattle.model.specs.Depths.{depth_from, depths_of}
use Rattle.model.specs.Rules.{applies}
use Rattle.model.specs.Runs.{Leads, Reaches, Turns, stop, end, move, Marked}
use Rattle.model.specs.Valid.{SameThread, Same, Valid}
use Rattle.model.specs.Verdict.{Verdict, clear, long, found, AtLeast, Judged}
use Rattle.model.specs.declared.ThreadId.{ThreadId}
use Rattle.model.specs.declared.ThreadId.TheVariants.{A, B}
use Rattle.model.specs.Walk.{owner_of, thread_of, Stacks, stack_of}
use Rattle.model.specs.Walk.{Config, start_of, Step, turn_fits, fire, step_from, walk}
use Rattle.model.specs.Fits.{ThreadFits}
use Rattle.model.proofs.Inside.{Applies, applies_iff}
use Rattle.model.proofs.Ranges.{valid_fits}

-- Sameness goes both ways.
back_thread : {t u : Thread} → SameThread t u → SameThread u t
back_thread s =
    record {
      symbols = sym s.symbols;
      first = sym s.first;
      top = sym s.top;
      held = sym s.held;
      count = sym s.count;
      rules = λ r h. sym (s.rules r (rw s.count h));
    }

pub back : {m n : Model} → Same m n → Same n m
back s =
    record {
      g = sym s.g;
      k = sym s.k;
      start = sym s.start;
      target = sym s.target;
      a = back_thread s.a;
      b = back_thread s.b;
    }

thread_of_lem : {m n : Model} → Same m n → (i : ThreadId) → SameThread (thread_of i m) (thread_of i n)
thread_of_lem s A = s.a
thread_of_lem s B = s.b

fits : {g h : ℕ} {t u : Thread} → g ≡ h → SameThread t u → ThreadFits g t → ThreadFits h u
fits {g} {h} {t} {u} e s f =
    record {
      symbols = rw (← s.symbols) f.symbols;
      first = rw (← s.first) f.first;
      top = rw (← s.top) f.top;
      count = rw (← s.count) f.count;
      rules = λ r k. let j : r < t.count = rw s.count k in rw (← e, ← s.rules r j) (f.rules r j);
      order = λ r k.
          let next : suc r < t.count = rw s.count k in
          rw (← s.rules r (omega arith), ← s.rules (suc r) next) (f.order r next);
      free = λ r h k. rw (← s.held) (f.free r (rw s.count h) k);
      below = record {
        first = rw (← s.symbols, ← s.first) f.below.first;
        top = rw (← s.symbols, ← s.top) f.below.top;
        before = λ r k. let j : r < t.count = rw s.count k in rw (← s.symbols, ← s.rules r j) (f.below.before r j);
        new = λ r k. let j : r < t.count = rw s.count k in rw (← s.symbols, ← s.rules r j) (f.below.new r j);
      };
    }

-- A model that is the same as a valid one is valid.
pub same_valid : {m n : Model} → Same m n → Valid m → Valid n
same_valid {m} {n} s v =
    let f = (valid_fits m).0 v in
    (valid_fits n).1
    (record {
      g = rw (← s.g) f.g;
      k = rw (← s.k) f.k;
      start = rw (← s.start, ← s.g) f.start;
      target = rw (← s.target, ← s.g) f.target;
      a = fits s.g s.a f.a;
      b = fits s.g s.b f.b;
    })

-- A thread fires the same: a rule in its list is the same one, and any other does not apply.
same_fire : {m n : Model} → Same m n → (c : Config) (s : Step) (w : List ℕ) → fire m c s w ≡ fire n c s w
unfolding fire applies
same_fire e c s [] = refl
same_fire {m} {n} e c s (top ∷ w) =
    let i = owner_of s.turn in
    let t = thread_of_lem e i in
    elim (dec_lt s.rule (thread_of i m).count) [
      | yes h ↦ rw (t.count, t.held, t.rules s.rule h)
      | no h ↦ rw (← t.count, le-ltb s.rule (thread_of i m).count (omega arith))
    ]

-- Models that are the same make the same steps ..
same_step : {m n : Model} → Same m n → (c : Config) (x : Step) → step_from m c x ≡ step_from n c x
unfolding step_from turn_fits
same_step s c x = rw (same_fire s c x (stack_of (owner_of x.turn) c.stacks), s.k)

-- .. and so the same walks ..
pub same_walk : {m n : Model} → Same m n → (ss : List Step) (c : Config) → walk m c ss ≡ walk n c ss
unfolding walk
same_walk s [] c = refl
same_walk s (x ∷ xs) c = rw (same_step s c x, fun_ext (same_walk s xs))

-- .. as deep.
same_depth : {m n : Model} → Same m n → (i : ThreadId) (ss : List Step) (c : Config) → depth_from i m c ss ≡ depth_from i n c ss
unfolding depth_from
same_depth s i [] c = refl
same_depth s i (x ∷ xs) c = rw (same_step s c x, fun_ext (same_depth s i xs))

same_start : {m n : Model} → Same m n → start_of m ≡ start_of n
same_start s = rw (s.start, s.a.first, s.b.first)

-- The depths of a schedule are the same.
pub same_depths : {m n : Model} → Same m n → (ss : List Step) → depths_of m ss ≡ depths_of n ss
same_depths {m} {n} s ss = rw (same_start s, same_depth s A ss (start_of n), same_depth s B ss (start_of n))

-- A schedule leads to the same shared state and stacks.
pub same_leads : {m n : Model} → Same m n → {ss : List Step} {g : ℕ} {σ : Stacks} → Leads m ss g σ → Leads n ss g σ
same_leads {m} {n} s {ss} l =
    record { turn = l.turn; walked = rw (← same_start s, ← same_walk s ss (start_of m)) l.walked }

same_reaches : {m n : Model} → Same m n → {ss : List Step} → Reaches m ss → Reaches n ss
same_reaches s {ss} r =
    record {
      shared = r.shared;
      stacks = r.stacks;
      leads = same_leads s r.leads;
      target = rw (s.target, s.a.top, s.b.top) at r.target;
    }

same_least : {m n : Model} → Same m n → {k : ℕ} → AtLeast m k → AtLeast n k
same_least s h ss l = h ss (same_reaches (back s) l)

-- A run of one is a run of the other: a rule that applies is in the list, and there it is the same one.
same_turns : {m n : Model} → Same m n → {t q : ℕ} {held : Bool} {σ τ : Stacks} {line : List ℕ} {ss : List Step}
    → Turns m t held q σ line ss τ → Turns n t held q σ line ss τ
same_turns s stop = stop
same_turns s (end r) = end (same_turns s r)
same_turns {m} {n} s {t} {q} (move {r = r} {top = top} e p rest) =
    let i = thread_of_lem s (owner_of t) in
    let a = (applies_iff (thread_of (owner_of t) m) r q top).0 p in
    let same = i.rules r a.listed in
    let applied : Applies (thread_of (owner_of t) n) r q top =
    record { listed = rw (← i.count) a.listed; state = rw (← same) a.state; symbol = rw (← same) a.symbol } in
    move e ((applies_iff (thread_of (owner_of t) n) r q top).1 applied) (rw (same, i.held) at (same_turns s rest))

-- Models that are the same have the same marked lines.
pub same_marked : {m n : Model} → Same m n → {line : List ℕ} → Marked m line → Marked n line
same_marked s r = (r.0, r.1, rw (s.start, s.a.first, s.b.first) at (same_turns s r.2))

-- A verdict of one is a verdict of the other.
pub same_judged : {m n : Model} → Same m n → (v : Verdict) → Judged m v → Judged n v
same_judged s clear j = λ ss l. j ss (same_reaches (back s) l)
same_judged s long j = ((j.0.0, same_reaches s j.0.1), same_least s j.1)
same_judged s (found k) j = (
  j.0,
  record {
    schedule = j.1.schedule;
    reaches = same_reaches s j.1.reaches;
    steps = j.1.steps;
    least = same_least s j.1.least;
  },
)
