-- How long the parts of a page are: a number that fits its columns takes just those, and a stack takes 28.
use mathlib.Core.List.{List, ◌++◌}
use mathlib.Core.Path.{◌≡◌, refl}
use Prim.Native.Nat.{ℕ, zero, suc, ◌+◌, ◌/◌, ◌%◌, ◌≤◌, ◌<◌}
use native.Mathlib.Nat.{min-le_left, div-le_self, mod-lt}
use native.Mathlib.Omega.{arith}
use lib.ListN.{length, length-append, length-map, length-take}
use Rattle.model.specs.Walk.{Stacks, Config, Step}
use Rattle.text.specs.Text.{decimal, blanks}
use Rattle.text.proofs.Columns.{length_right, length_left}
use Rattle.text.proofs.Numbers.{digits_1, digits_2, digits_4}
use Rattle.page.specs.Page.{column, stack_columns, step_head, step_stacks, page_line, average, foot_line}
use Rattle.page.specs.Parts.{StepFits, FootFits}

-- A number that fits has its columns and a blank.
pub length_column : (w n : ℕ) → length (decimal n) ≤ w → length (column w n) ≡ w + 1
unfolding column
length_column w n h = simp length-append (omega (arith, length_right w (decimal n) h))

-- A stack has 28, whatever it holds.
pub length_stack : (w : List ℕ) → length (stack_columns w) ≡ 28
unfolding stack_columns
length_stack w = length_left 28 _ (simp (length-map, length-take) (min-le_left 28 (length w)))

-- The first 14 columns of a step ..
pub length_head : {n shared : ℕ} {s : Step} → StepFits n s.turn s.rule shared → length (step_head n s shared) ≡ 14
unfolding step_head
length_head {n} {shared} {s} c =
    let a = length_column 4 n (digits_4 n c.number) in
    let b = length_column 1 s.turn (digits_1 s.turn c.turns) in
    let d = length_column 2 s.rule (digits_2 s.rule c.rules) in
    let e = length_column 1 shared (digits_1 shared c.states) in
    simp length-append (omega arith)

-- .. and the 59 bytes behind them.
pub length_stacks : (σ : Stacks) → length (step_stacks σ) ≡ 59
unfolding step_stacks
length_stacks σ = simp length-append (omega (arith, length_stack σ.a, length_stack σ.b))

-- A step's line.
pub length_line : {n : ℕ} {s : Step} (c : Config) → StepFits n s.turn s.rule c.shared → length (page_line n s c) ≡ 73
unfolding page_line
length_line {s = s} c h = simp length-append (omega (arith, length_head {s = s} h, length_stacks c.stacks))

-- What is divided fits its columns: the whole part is at most the steps, and the remainder is below the turns.
pub whole_fits : {n t : ℕ} → FootFits n t → length (decimal (n / t)) ≤ 4
whole_fits {n} {t} d = digits_4 (n / t) (omega (arith, div-le_self n t, d.most))

pub rest_fits : {n t : ℕ} → FootFits n t → 0 < t → length (decimal (n % t)) ≤ 1
rest_fits {n} {t} d h = digits_1 (n % t) (omega (arith, mod-lt n h, d.few))

-- The steps and the turns of a foot fit theirs.
pub steps_fit : {n t : ℕ} → FootFits n t → length (decimal n) ≤ 4
steps_fit {n} d = digits_4 n (omega (arith, d.most))

pub turns_fit : {n t : ℕ} → FootFits n t → length (decimal t) ≤ 1
turns_fit {t = t} d = digits_1 t (omega (arith, d.few))

-- With no step there is nothing to divide ..
pub average_none : (n t : ℕ) → n ≡ 0 → average n t ≡ blanks 7
unfolding average
average_none n t e = rw e

-- .. and with one both numbers are there.
pub average_some : (n t : ℕ) → (n ≡ 0 → ⊥) → average n t ≡ column 4 (n / t) ++ column 1 (n % t)
unfolding average
average_some zero t h = absurd (h refl)
average_some (suc n) t h = refl

-- The part of the foot that has them ..
pub length_average : (n t : ℕ) → FootFits n t → length (average n t) ≡ 7
unfolding average
length_average zero t d = refl
length_average (suc n) t d =
    let a = length_column 4 (suc n / t) (whole_fits d) in
    let b = length_column 1 (suc n % t) (rest_fits d (d.some (omega arith))) in
    simp length-append (omega arith)

-- .. and the whole line.
pub length_foot : (n t : ℕ) → FootFits n t → length (foot_line n t) ≡ 73
unfolding foot_line
length_foot n t d =
    let a = length_column 4 n (steps_fit d) in
    let b = length_column 1 t (turns_fit d) in
    simp length-append (omega (arith, length_average n t d))
