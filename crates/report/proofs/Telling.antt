-- From the answers of the reader and of the judge to what is printed.
use mathlib.Core.List.{List, ◌++◌}
use mathlib.Core.Path.{◌≡◌, refl, subst}
use Prim.Native.Nat.{ℕ, ◌*◌, ◌≤◌, ◌<◌}
use native.Mathlib.Omega.{arith}
use lib.ListN.{length, take}
use Rattle.model.specs.declared.Depths.{Depths}
use Rattle.model.specs.declared.Model.{Model}
use Rattle.model.specs.Results.{refused, accepted}
use Rattle.model.specs.Schedules.{steps_of, Stored, most_steps}
use Rattle.model.specs.Tables.{LineTable}
use Rattle.model.specs.Valid.{Valid}
use Rattle.model.specs.Verdict.{clear, long, found, Judged}
use Rattle.model.specs.Walk.{Step}
use Rattle.model.proofs.Ranges.{valid_fits}
use Rattle.model.proofs.Stores.{stored_steps}
use Rattle.record.specs.Held.{reading_of}
use Rattle.record.specs.Reader.{Read}
use Rattle.judge.specs.Answer.{Witness}
use Rattle.report.specs.Prints.{Told, TextFor, text_room}
use Rattle.report.specs.Table.{standing, Fills}
use Rattle.text.specs.Text.{line}
use Rattle.text.proofs.Numbers.{digits_4, length_line}
use Rattle.report.specs.Text.{refused_word, found_line, clear_line, long_line, step_lines, count_lines}
use Rattle.report.proofs.Sizes.{found_short}

-- A store of 683 bytes has a bit for each line of a valid model.
pub fills : (m : Model) {table : List ℕ} → Valid m → length table ≡ 683 → Fills m.g (2 * m.k) table
fills m v e =
    let f = (valid_fits m).0 v in
    record { states = f.g.1; most = omega (arith, f.k); bits = omega arith }

-- The text of a model that is Clear.
pub tells_clear : {m : Model} {old table : List ℕ} → Judged m clear → LineTable m old table
    → Told m (clear_line ++ count_lines m.g (standing m.g table) (2 * m.k))
unfolding standing
tells_clear {m} {table = table} j t =
    record {
      verdict = clear;
      judged = j;
      tells = record { has = standing m.g table; marks = t.marks; same = refl };
    }

-- There is room for the text of the schedule.
pub found_room : {m : Model} {n : ℕ} {depths : Depths} {old new : List ℕ} → Valid m → n ≤ most_steps
    → (s : Stored (Witness m n depths) n 0 old new) → 2 * n ≤ length old
    → length (found_line n depths ++ step_lines (steps_of (take (2 * n) new))) ≤ text_room
found_room {m} v h s l =
    rw (stored_steps s l, s.run.deep) (found_short ((valid_fits m).0 v) s.run.least.run.leads s.count h)

-- The line of a refusal is short.
pub refused_short : (n : ℕ) → n < 256 → length (line refused_word n) ≤ 13
refused_short n h = omega (arith, length_line refused_word n, digits_4 n (omega arith))

-- The text of a model that is Found.
pub tells_found : {m : Model} {n : ℕ} {depths : Depths} {ss : List Step} {old new : List ℕ} → Judged m (found n)
    → (s : Stored (Witness m n depths) n 0 old new) → ss ≡ s.steps → Told m (found_line n depths ++ step_lines ss)
tells_found {n = n} j s e =
    record {
      verdict = found n;
      judged = j;
      tells = record { steps = s.steps; run = s.run.least; count = s.count; shown = rw (e, s.run.deep) };
    }

-- The text of a model that is Long.
pub tells_long : {m : Model} → Judged m long → Told m long_line
tells_long j = record { verdict = long; judged = j; tells = refl }

-- The text of a model that a whole record holds is the text of the record ..
pub acceptance : (x : Read Model) {m : Model} → accepted m ≡ reading_of x → (text : List ℕ) → Told m text → TextFor x text
unfolding reading_of
acceptance (refused n) e text j = absurd (let z : ◌≡◌ {A = ℕ} 0 1 = cc in omega arith)
acceptance (accepted (m, rest)) {m = n} e text j = let same : n ≡ m = cc in subst (λ r. Told r text) same j

-- .. and so is the line of a refusal.
pub refusal : (x : Read Model) {n : ℕ} → refused n ≡ reading_of x → TextFor x (line refused_word n)
unfolding reading_of
refusal (refused k) {n} e = let same : k ≡ n = cc in rw same
refusal (accepted (m, rest)) e = absurd (let z : ◌≡◌ {A = ℕ} 0 1 = cc in omega arith)
