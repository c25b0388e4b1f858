-- The schedule of a line: each thread's least steps along it are those of its views, and both threads' first runs, merged by turn, are the
-- first schedule along it.
use mathlib.Core.List.{List, [], ◌∷◌}
use mathlib.Core.Path.{◌≡◌, refl, sym, ap, ◌∙◌}
use Prim.Native.Nat.{ℕ, zero, suc, ◌+◌, ◌-◌, ◌*◌, ◌^◌, ◌≤◌, ◌<◌}
use native.Mathlib.Omega.{arith}
use lib.ListN.{length, get_or, take, replicate, length-replicate}
use lib.Seq.{sets, length-sets, length-take-le}
use Rattle.std.specs.Prelude.{Option}
use Rattle.model.specs.declared.Model.{Model}
use Rattle.model.specs.First.{First}
use Rattle.model.specs.Fits.{Fits}
use Rattle.model.specs.Lines.{digits, States}
use Rattle.model.specs.Runs.{EndsUnder}
use Rattle.model.specs.Schedules.{most_bytes, most_steps, bytes_of, steps_of, Stored}
use Rattle.model.specs.declared.Thread.{Thread}
use Rattle.model.specs.declared.ThreadId.{ThreadId}
use Rattle.model.specs.Tops.{Top}
use Rattle.model.specs.declared.ThreadId.TheVariants.{A, B}
use Rattle.model.specs.Walk.{thread_of, Step}
use Rattle.model.proofs.Positions.{length_digits, digits_states}
use Rattle.model.proofs.Stores.{stored_steps}
use Rattle.costs.specs.declared.side.Side.{Side}
use Rattle.costs.specs.Cost.{LeastAt, RunAlong, ViewCost}
use Rattle.costs.proofs.Along.{line_view, view_cost}
use Rattle.costs.specs.Ends.{turn_of, ends_of}
use Rattle.costs.specs.Lanes.{Value, line_of, first_lane}
use Rattle.summary.specs.Control.{TurnEnd}
use Rattle.run.specs.Base.{SolvedFor}
use Rattle.run.specs.Chosen.{ChosenFor}
use Rattle.run.proofs.Bases.{exact_same}
use Rattle.witness.specs.Chosen.{Chosen, ChosenBy}
use Rattle.witness.specs.Merge.{merged}
use Rattle.witness.specs.Solves.{SameEnd, SideOf, Solves, SolvesFor, SolvesIfLine, SolvesForIfLine, FirstOf}
use Rattle.witness.proofs.FirstMerged.{merged_first}

-- K rounds are K − 1 turn ends and one more.
rounds : (k : ℕ) → 1 ≤ k → 2 * suc (k - 1) ≡ 2 * k
rounds k h = omega arith

-- A table that is solved for a line is so for its number, which the weaker definition lets be that of no line.
pub if_line : {m : Model} {i : ThreadId} {last : Option ℕ} {table : List ℕ} → SolvesFor m i last table → SolvesForIfLine m i last table
if_line h = record { room = h.room; base = h.base; done = λ v e low. (h.done v e).1 }

-- So of both tables.
pub solves_if_line : {m : Model} {last : Option ℕ} {a b : List ℕ} → Solves m last a b → SolvesIfLine m last a b
solves_if_line h = record { first = if_line h.first; second = if_line h.second }

-- A table that is solved for the number of a line is so for one with the same first turn end ..
pub known_solved_if_line : {m : Model} {i : ThreadId} {last : Option ℕ} {v : ℕ} {table : List ℕ} → SameEnd i m.g (m.k - 1) last v
    → SolvesForIfLine m i last table → SolvedFor (thread_of i m) (thread_of i m).top i m.g (m.k - 1) v table
known_solved_if_line {m} s h two =
    exact_same (ap (λ (e : TurnEnd). e.leave) (sym s.same)) (ap (λ (e : TurnEnd). e.enter) (sym s.same))
    (h.done s.line s.known (rw (rounds m.k (omega (arith, two))) at s.low) two)

-- .. and so is one that is solved for a line.
pub known_solved : {m : Model} {i : ThreadId} {last : Option ℕ} {v : ℕ} {table : List ℕ} → SameEnd i m.g (m.k - 1) last v
    → SolvesFor m i last table → SolvedFor (thread_of i m) (thread_of i m).top i m.g (m.k - 1) v table
known_solved s h = known_solved_if_line s (if_line h)

-- A place of a line of states holds one, be it beyond the end.
state_low : {g : ℕ} (line : List ℕ) → 1 ≤ g → States g line → (k : ℕ) → get_or line k 0 < g
state_low [] o l k = o
state_low (x ∷ xs) o l zero = l.0
state_low (x ∷ xs) o l (suc k) = state_low xs o l.1 k

-- Two lines of a side whose first turn ends have one lane have the same first turn end.
pub one_lane : (side : Side) {v w : ℕ} → Value side v → Value side w → first_lane side v ≡ first_lane side w
    → ends_of side.id (line_of side v) 0 ≡ ends_of side.id (line_of side w) 0
one_lane side {v} {w} h k same =
    let four = side.system.four in
    let t : ℕ = suc (turn_of side.id 0) in
    let p = state_low (line_of side v) side.system.some (digits_states _ _ _ h) t in
    let q = state_low (line_of side w) side.system.some (digits_states _ _ _ k) t in
    let enter : get_or (line_of side v) t 0 ≡ get_or (line_of side w) t 0 = omega arith in
    let leave : get_or (line_of side v) (turn_of side.id 0) 0 ≡ get_or (line_of side w) (turn_of side.id 0) 0 = omega arith in
    rw (leave, enter) refl

-- A schedule store has room for the steps of both threads.
pub fronts_fit : (a b : List ℕ) (x y : ℕ) {n : ℕ} → 2 * x ≤ length a → 2 * y ≤ length b → x + y ≤ most_steps → most_bytes ≤ n
    → length (take (2 * x) a) + length (take (2 * y) b) ≤ n
fronts_fit a b x y h k most room = omega (arith, length-take-le (2 * x) a h, length-take-le (2 * y) b k)

-- A store that held nothing has the same size with steps in it.
pub stored_size : {Run : List Step → Type 0} {n : ℕ} {new : List ℕ} → Stored Run n 0 (replicate most_bytes 0) new → length new ≡ most_bytes
stored_size s = ap length s.shown ∙ (length-sets (replicate most_bytes 0) 0 (bytes_of s.steps) ∙ length-replicate {A = ℕ} most_bytes 0)

-- What holds of a thread of a model holds of its side ..
all_as : (Q : Thread → ℕ → Top → ThreadId → ℕ → ℕ → Type 0) {t u : Thread} {g h n k q p : ℕ} {x y : Top} {i j : ThreadId}
    → t ≡ u → g ≡ h → x ≡ y → i ≡ j → n ≡ k → q ≡ p → Q u h y j k p → Q t g x i n q
all_as Q a b c d e f r = rw (a, b, c, d, e, f) r

pub to_side : {m : Model} {i : ThreadId} {side : Side} → SideOf m i side → (Q : Thread → ℕ → Top → ThreadId → ℕ → ℕ → Type 0)
    → Q (thread_of i m) m.g (thread_of i m).top i (m.k - 1) m.start.0
    → Q side.system.th side.system.g side.system.top side.id side.n side.start
to_side s Q r = all_as Q s.th s.g s.top s.id s.n s.start r

-- .. and the other way.
pub from_side : {m : Model} {i : ThreadId} {side : Side} → SideOf m i side → (Q : Thread → ℕ → Top → ThreadId → ℕ → ℕ → Type 0)
    → Q side.system.th side.system.g side.system.top side.id side.n side.start
    → Q (thread_of i m) m.g (thread_of i m).top i (m.k - 1) m.start.0
from_side s Q r = all_as Q (sym s.th) (sym s.g) (sym s.top) (sym s.id) (sym s.n) (sym s.start) r

-- A line and a thread's least steps along it, as the thread's writer asks for them.
pub chosen_for : {m : Model} {i : ThreadId} {side : Side} (v cost : ℕ) → Fits m → SideOf m i side → ChosenBy m i v cost
    → ChosenFor side v cost
chosen_for {m} {i} v cost f s c =
    let same = rounds m.k f.k.0 in
    let line = length_digits m.g (2 * suc (m.k - 1)) v in
    record {
      low = to_side s (λ t g top j n q. v < g ^ (2 * suc n)) (rw same c.low);
      least = to_side s (λ t g top j n q. LeastAt t top j g n q v cost)
          ((view_cost m i (thread_of i m).top (m.k - 1) _ cost line).1 (rw same c.cost));
      most = c.most;
    }

-- No run of a thread along a line is shorter than the least of its views.
no_shorter : (m : Model) (i : ThreadId) (n : ℕ) (line : List ℕ) {cost : ℕ} → length line ≡ 2 * suc n
    → ViewCost m i (thread_of i m).top line cost → (ss : List Step)
    → RunAlong (thread_of i m) (thread_of i m).top i n m.start.0 line ss → cost ≤ length ss
no_shorter m i n line size c ss r = (c.least ((line_view m i (thread_of i m).top n m.start.0 _ line ss size).1 r)).1

-- Both threads' first runs, merged, are the line's first schedule.
pub written : (m : Model) (v : ℕ) {x y : ℕ} {s t a b old new : List ℕ} → 1 ≤ m.k → Chosen m v x y → FirstOf m A v x s a → FirstOf m B v y t b
    → 2 * x ≤ length s → 2 * y ≤ length t
    → new ≡ sets old 0 (bytes_of (merged (steps_of (take (2 * x) a)) (steps_of (take (2 * y) b))))
    → Stored (First (EndsUnder m (digits m.g (2 * m.k) v)) (x + y)) (x + y) 0 old new
written m v {a = a} {b = b} k c p q i j e =
    let n : ℕ = m.k - 1 in
    let same = rounds m.k k in
    let size = length_digits m.g (2 * suc n) v in
    let f = merged_first m n (digits m.g (2 * suc n) v) size p.run q.run
    (no_shorter m A n (digits m.g (2 * suc n) v) size (rw same c.a))
    (no_shorter m B n (digits m.g (2 * suc n) v) size (rw same c.b)) in
    record {
      steps = merged p.steps q.steps;
      run = rw same at f;
      count = f.count;
      shown = rw (stored_steps p i, stored_steps q j) at e;
    }
