-- How long the text can be: a line of a step that a walk makes has at most seven bytes, since its turn is below 6 and its rule
-- below 64.
use mathlib.Core.List.{List, [], ◌∷◌, ◌++◌}
use mathlib.Core.Path.{◌≡◌}
use Prim.Native.Nat.{ℕ, ◌+◌, ◌*◌, ◌≤◌, ◌<◌}
use native.Mathlib.Omega.{arith}
use lib.ListN.{length, length-append}
use Rattle.model.specs.declared.Depths.{Depths}
use Rattle.model.specs.declared.Model.{Model}
use Rattle.model.specs.Depths.{depths_of}
use Rattle.model.specs.Fits.{Fits}
use Rattle.model.specs.Results.{accepted}
use Rattle.model.specs.Runs.{Leads}
use Rattle.model.specs.Schedules.{most_steps}
use Rattle.model.specs.Walk.{owner_of, thread_of, Config, Step, step_from, walk, Stacks}
use Rattle.model.specs.declared.ThreadId.{ThreadId}
use Rattle.model.specs.declared.ThreadId.TheVariants.{A, B}
use Rattle.model.proofs.Inside.{applies_iff}
use Rattle.model.proofs.Results.{through}
use Rattle.model.proofs.Steps.{stepped}
use Rattle.costs.specs.Lanes.{full_lines}
use Rattle.depths.proofs.Climbing.{legal, depth_most}
use Rattle.report.specs.Prints.{text_room}
use Rattle.text.proofs.Numbers.{digits_1, digits_2, digits_4, length_line}
use Rattle.report.specs.Text.{step_line, step_lines, pair_line, found_line}

few_rules : {m : Model} → Fits m → (i : ThreadId) → (thread_of i m).count ≤ 64
few_rules f A = f.a.count
few_rules f B = f.b.count

-- The line of a step has at most seven bytes ..
step_short : (s : Step) → s.turn < 10 → s.rule < 100 → length (step_line s) ≤ 7
unfolding step_line
step_short s h k =
    simp (length-append, length_line) (omega (arith, digits_1 s.turn h, digits_2 s.rule k))

-- .. and so have those of a walk.
walk_short : {m : Model} → Fits m → (ss : List Step) (c : Config) {d : Config} → walk m c ss ≡ accepted d
    → length (step_lines ss) ≤ 7 * length ss
unfolding walk step_lines
walk_short f [] c e = omega arith
walk_short {m} f (s ∷ ss) c e =
    let t = through (step_from m c s) (λ d. walk m d ss) e in
    let p = stepped {m = m} {c = c} {s = s} t.1 in
    let rule = ((applies_iff (thread_of (owner_of s.turn) m) s.rule c.shared p.top).0 p.rule).listed in
    let few = few_rules f (owner_of s.turn) in
    let one = step_short s (omega (arith, p.early, f.k)) (omega arith) in
    let rest = walk_short f ss t.0 t.2 in
    simp length-append (omega arith)

-- The line of Found has at most 21: its depths are at most one more than its steps.
head_short : (n : ℕ) (d : Depths) → n ≤ most_steps → d.a ≤ n + 1 → d.b ≤ n + 1 → length (found_line n d) ≤ 21
unfolding found_line pair_line
head_short n d h x y =
    let steps = digits_4 n (omega arith) in
    let a = digits_4 d.a (omega arith) in
    let b = digits_4 d.b (omega arith) in
    simp (length-append, length_line) (omega arith)

-- The whole text of a schedule.
pub found_short : {m : Model} {ss : List Step} {n q : ℕ} {σ : Stacks} → Fits m → Leads m ss q σ → length ss ≡ n → n ≤ most_steps
    → length (found_line n (depths_of m ss) ++ step_lines ss) ≤ text_room
found_short {m} {ss} {n} f l e h =
    let known = legal f l.walked in
    let steps = walk_short f ss _ l.walked in
    let head = head_short n (depths_of m ss) h (omega (arith, depth_most A known)) (omega (arith, depth_most B known)) in
    simp length-append (omega arith)

-- The line of a length.
pub count_short : (n c : ℕ) → n < 10 → c ≤ full_lines → length (pair_line n c) ≤ 7
unfolding pair_line
count_short n c h k = simp (length-append, length_line) (omega (arith, digits_1 n h, digits_4 c (omega arith)))
