-- Heights tell depths: where a step of the walk is made, the height of each stack after it is the one that the step's rule says; so the
-- greatest of them is the depth. A step adds one symbol at most.
use mathlib.Core.Bool.{Bool, true, false, cond}
use mathlib.Core.List.{List, [], ◌∷◌}
use mathlib.Core.Path.{◌≡◌, refl, sym, ◌∙◌, ap}
use Prim.Native.Nat.{ℕ, zero, suc, ◌+◌, ◌-◌, ◌*◌, ◌/◌, ◌%◌, ◌≤◌, ◌<◌, max}
use native.Mathlib.Omega.{arith}
use borrow.Author.Tests.{eq-eqb, ne_eqb}
use lib.Dec.{eqb}
use lib.ListN.{length, drop, get_or, length-drop}
use Rattle.model.specs.declared.Model.{Model}
use Rattle.model.specs.declared.Right.{Right}
use Rattle.model.specs.declared.Right.TheVariants.{Remove, Swap, Push}
use Rattle.model.specs.declared.Thread.{Thread}
use Rattle.model.specs.declared.ThreadId.{ThreadId}
use Rattle.model.specs.declared.ThreadId.TheVariants.{A, B}
use Rattle.model.specs.Depths.{height_of, depth_from, depths_of}
use Rattle.model.specs.Fits.{Fits}
use Rattle.model.specs.Results.{accepted}
use Rattle.model.specs.Rules.{rule_at, put}
use Rattle.model.specs.Schedules.{steps_of, step_at, steps_from}
use Rattle.model.specs.Walk.{other, owner_of, thread_of, Config, Step, start_of, step_from, walk}
use Rattle.model.proofs.Inside.{applies_iff, fits_of}
use Rattle.model.proofs.Results.{through}
use Rattle.model.proofs.Steps.{Stepped, stepped}
use Rattle.model.proofs.Stores.{first_step, short}
use Rattle.depths.specs.Heights.{size, parity, climbed, climb, Legal}

-- The parity of a turn is that of its thread.
turn_parity : (t : ℕ) → t % 2 ≡ parity (owner_of t)
turn_parity zero = refl
turn_parity (suc zero) = refl
turn_parity (suc (suc t)) = let same : suc (suc t) % 2 ≡ t % 2 = omega arith in same ∙ (turn_parity t ∙ twice (owner_of t))
  where
    twice : (i : ThreadId) → parity i ≡ parity (other (other i))
    twice A = refl
    twice B = refl

-- A right side in the place of a top makes a stack as high as is said ..
put_height : (x : Right) (top : ℕ) (w : List ℕ) → length (put x w) ≡ length (top ∷ w) + size x - 1
put_height Remove top w = omega arith
put_height (Swap a) top w = omega arith
put_height (Push a b) top w = omega arith

-- .. and it brings two symbols at most.
size_most : (x : Right) → size x ≤ 2
size_most Remove = omega arith
size_most (Swap a) = omega arith
size_most (Push a b) = omega arith

-- A step leaves the stack of the other thread ..
foreign : (t : Thread) (odd h : ℕ) (s : Step) → (s.turn % 2 ≡ odd → ⊥) → climbed t odd h s ≡ h
unfolding climbed
foreign t odd h s e = rw (ne_eqb (s.turn % 2) odd e)

-- .. and its own thread's is as high as a rule below 64 says ..
own : (t : Thread) (odd : ℕ) (s : Step) (top : ℕ) (w : List ℕ) → s.turn % 2 ≡ odd → s.rule < 64
    → climbed t odd (length (top ∷ w)) s ≡ length (put (rule_at t s.rule).right w)
unfolding climbed
own t odd s top w e h =
    let r : s.rule % 64 ≡ s.rule = omega arith in
    rw (eq-eqb (s.turn % 2) odd e, r) (sym (put_height (rule_at t s.rule).right top w))

-- .. by one symbol higher at most.
climbed_most : (t : Thread) (odd h : ℕ) (s : Step) → climbed t odd h s ≤ h + 1
unfolding climbed
climbed_most t odd h s = go (eqb (s.turn % 2) odd)
  where
    go : (b : Bool) → cond b (h + size (rule_at t (s.rule % 64)).right - 1) h ≤ h + 1
    go true = omega (arith, size_most (rule_at t (s.rule % 64)).right)
    go false = omega arith

-- The greatest height is at least the first.
climb_here : (t : Thread) (odd h : ℕ) (ss : List Step) → h ≤ climb t odd h ss
unfolding climb
climb_here t odd h [] = omega arith
climb_here t odd h (s ∷ ss) = omega arith

-- It rises by at most one a step.
climb_most : (t : Thread) (odd h : ℕ) (ss : List Step) → climb t odd h ss ≤ h + length ss
unfolding climb
climb_most t odd h [] = omega arith
climb_most t odd h (s ∷ ss) =
    let one = climbed_most t odd h s in
    let rest = climb_most t odd (climbed t odd h s) ss in
    omega arith

-- A step of the walk that is made leaves each stack at the height that is said.
stepped_height : (i : ThreadId) (m : Model) → ((j : ThreadId) → (thread_of j m).count ≤ 64) → (c : Config) (s : Step) {d : Config}
    → step_from m c s ≡ accepted d → climbed (thread_of i m) (parity i) (height_of i c) s ≡ height_of i d
stepped_height i m few c s {d} e =
    let p = stepped {m = m} {c = c} {s = s} e in
    let o = owner_of s.turn in
    let listed = ((applies_iff (thread_of o m) s.rule c.shared p.top).0 p.rule).listed in
    go i o refl p (omega (arith, few o))
  where
    go : (i o : ThreadId) → owner_of s.turn ≡ o → Stepped m c s d → s.rule < 64
        → climbed (thread_of i m) (parity i) (height_of i c) s ≡ height_of i d
    go A A f p h = rw (p.come, f, rw f at p.stack) (own m.a 0 s p.top p.below (turn_parity s.turn ∙ ap parity f) h)
    go B B f p h = rw (p.come, f, rw f at p.stack) (own m.b 1 s p.top p.below (turn_parity s.turn ∙ ap parity f) h)
    go A B f p h =
        let odd : s.turn % 2 ≡ 1 = turn_parity s.turn ∙ ap parity f in
        foreign m.a 0 (height_of A c) s (λ z. omega arith) ∙ rw (p.come, f)
    go B A f p h =
        let even : s.turn % 2 ≡ 0 = turn_parity s.turn ∙ ap parity f in
        foreign m.b 1 (height_of B c) s (λ z. omega arith) ∙ rw (p.come, f)

-- So the greatest height over a walk that is not refused is the depth.
climb_depth : (i : ThreadId) (m : Model) → ((j : ThreadId) → (thread_of j m).count ≤ 64) → (ss : List Step) (c : Config) {e : Config}
    → walk m c ss ≡ accepted e → climb (thread_of i m) (parity i) (height_of i c) ss ≡ depth_from i m c ss
unfolding climb depth_from walk
climb_depth i m few [] c w = refl
climb_depth i m few (s ∷ ss) c w =
    let made = through (step_from m c s) (λ d. walk m d ss) w in
    let rest = climb_depth i m few ss made.0 made.2 in
    rw (made.1, stepped_height i m few c s made.1, rest)

-- A schedule that is walked to its end is legal, where the model is in range.
pub legal : {m : Model} {ss : List Step} {c : Config} → Fits m → walk m (start_of m) ss ≡ accepted c → Legal m ss
legal {c = c} f w = record { few = λ i. (fits_of f i).count; last = c; walked = w }

-- The heights of both threads over a legal schedule are its depths.
pub legal_depths : {m : Model} {ss : List Step} → Legal m ss → {x y : ℕ} → x ≡ climb m.a 0 1 ss → y ≡ climb m.b 1 1 ss
    → record { a = x; b = y } ≡ depths_of m ss
legal_depths {m} {ss} l e f =
    rw (e, f, climb_depth A m l.few ss (start_of m) l.walked, climb_depth B m l.few ss (start_of m) l.walked)

-- A depth is at most one more than the steps.
pub depth_most : (i : ThreadId) {m : Model} {ss : List Step} → Legal m ss → depth_from i m (start_of m) ss ≤ length ss + 1
depth_most i {m} {ss} l =
    let same = climb_depth i m l.few ss (start_of m) l.walked in
    let most = climb_most (thread_of i m) (parity i) (height_of i (start_of m)) ss in
    let one : height_of i (start_of m) ≡ 1 = starts i in
    omega arith
  where
    starts : (i : ThreadId) → height_of i (start_of m) ≡ 1
    starts A = refl
    starts B = refl

-- Heights counted step by step: the greatest so far, and what is to come from the height here, are the greatest of all.
pub record Counting (t : Thread) (odd : ℕ) (l : List ℕ) (height most i : ℕ) : Type 0 where
  pub place : i ≤ length l / 2
  pub low : height ≤ i + 1
  pub below : height ≤ most
  pub whole : max most (climb t odd height (steps_from l i)) ≡ climb t odd 1 (steps_of l)

pub counting_start : (t : Thread) (odd : ℕ) (l : List ℕ) → Counting t odd l 1 1 0
counting_start t odd l =
    let here = climb_here t odd 1 (steps_of l) in
    record { place = omega arith; low = omega arith; below = omega arith; whole = omega arith }

module _ {t : Thread} {odd : ℕ} {l : List ℕ} {height most i : ℕ} (c : Counting t odd l height most i) where
  -- One step more is counted ..
  pub counting_next : i < length l / 2 → {r next great : ℕ} → r ≡ get_or l (2 * i + 1) 0 % 64
      → next ≡ cond (eqb (get_or l (2 * i) 0 % 2) odd) (height + size (rule_at t r).right - 1) height → great ≡ max most next
      → Counting t odd l next great (i + 1)
  unfolding climb climbed
  counting_next h {next = next} {great = great} r z f =
      let e : next ≡ climbed t odd height (step_at l i) = rw r at z in
      let one = climbed_most t odd height (step_at l i) in
      let whole = rw (first_step l i h, ← e) at c.whole in
      let here = climb_here t odd next (steps_from l (i + 1)) in
      record {
        place = omega arith;
        low = omega (arith, c.low);
        below = omega arith;
        whole = omega (arith, c.below);
      }

  -- .. until none is left.
  pub counting_end : length l / 2 ≤ i → most ≡ climb t odd 1 (steps_of l)
  unfolding climb
  counting_end h =
      let none_left : steps_from l i ≡ [] = short (drop (2 * i) l) (simp length-drop (omega arith)) in
      let whole = rw none_left at c.whole in
      omega (arith, c.below)
