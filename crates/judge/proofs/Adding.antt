-- The ways in which a line is gone through, over whatever the store held before all lines, and the store after all of them.
use mathlib.Core.Bool.{Bool, true, false}
use mathlib.Core.List.{List}
use mathlib.Core.Path.{◌≡◌, subst}
use Prim.Native.Nat.{ℕ, ◌+◌, ◌*◌, ◌%◌, ◌^◌, ◌≤◌, ◌<◌}
use native.Mathlib.Omega.{arith}
use lib.ListN.{length, take, get_or}
use lib.Seq.{sets}
use Rattle.model.specs.declared.Model.{Model}
use Rattle.model.specs.declared.ThreadId.TheVariants.{A, B}
use Rattle.model.specs.First.{First}
use Rattle.model.specs.Fits.{Fits}
use Rattle.model.specs.Runs.{Reaches}
use Rattle.model.specs.Schedules.{Stored}
use Rattle.model.specs.Verdict.{found, Judged}
use Rattle.costs.specs.Cost.{TargetCosts}
use Rattle.draw.proofs.Marks.{line_cost_lem}
use Rattle.witness.specs.Chosen.{Chosen}
use Rattle.judge.specs.Least.{AlongLine, Lowest, none, some, Adds, Compared}
use Rattle.judge.proofs.Lowest.{lowest_elsewhere, lowest_passed, lowest_first, lowest_taken, lowest_kept, sum_not}
use Rattle.judge.proofs.Lowest.{lowest_ends, lowest_some}

module _ {m : Model} (f : Fits m) {n v : ℕ} {a b : List ℕ} (costs : TargetCosts m a b) (j : Judged m (found n))
    (low : v < m.g ^ (2 * m.k)) where
  -- The schedule of a line whose two costs are n together can be asked for.
  pub line_chosen : get_or a v 0 + get_or b v 0 ≡ n → Chosen m v (get_or a v 0) (get_or b v 0)
  line_chosen e =
      record {
        low = low;
        a = line_cost_lem m A m.a.top a f.k.0 costs.0 v low;
        b = line_cost_lem m B m.b.top b f.k.0 costs.1 v low;
        most = omega (arith, j.0);
      }

  -- Where they are not, the line adds nothing; ..
  pub adds-nothing : {kept : List ℕ} {seen : Bool} → v % m.g ≡ m.target.0 → (get_or a v 0 + get_or b v 0 ≡ n → ⊥)
      → Adds m n v kept kept seen seen
  adds-nothing ends h old room l = lowest_passed l (sum_not f v costs j low ends h)

-- .. nor does one that does not end in the target.
pub adds_elsewhere : {m : Model} {n v : ℕ} {kept : List ℕ} {seen : Bool} → (v % m.g ≡ m.target.0 → ⊥) → Adds m n v kept kept seen seen
adds_elsewhere h old room l = lowest_elsewhere l h

-- So many steps are n.
counted : (m : Model) (v : ℕ) {x n : ℕ} {was fresh : List ℕ} → x ≡ n → Stored (First (AlongLine m v) x) x 0 was fresh
    → Stored (First (AlongLine m v) n) n 0 was fresh
counted m v {was = was} {fresh = fresh} e w = subst (λ i. Stored (First (AlongLine m v) i) i 0 was fresh) e w

-- The line ends in the target, and its first schedule of x steps, which are n, is written ..
module _ {m : Model} {n v x : ℕ} {kept new : List ℕ} {seen : Bool} where
  -- .. to the store itself, where none was found before; ..
  pub adds_first : v % m.g ≡ m.target.0 → x ≡ n → Stored (First (AlongLine m v) x) x 0 kept new → seen ≡ false
      → Adds m n v kept new seen true
  adds_first ends e w s old room l = lowest_first (subst (Lowest m n v old kept) s l) ends (counted m v e w)

  -- .. or to another one: it is copied where it stands before the one that was found, ..
  pub adds_taken : {was fresh : List ℕ} → v % m.g ≡ m.target.0 → x ≡ n → Stored (First (AlongLine m v) x) x 0 was fresh → seen ≡ true
      → 2 * n ≤ length was → Compared fresh kept n true → new ≡ sets kept 0 (take (2 * n) fresh) → Adds m n v kept new seen true
  adds_taken ends e w s space b c old room l = lowest_taken (subst (Lowest m n v old kept) s l) (counted m v e w) room space ends b c

-- .. and left where it does not.
pub adds_left : {m : Model} {n v x : ℕ} {kept was fresh : List ℕ} {seen : Bool} → x ≡ n
    → Stored (First (AlongLine m v) x) x 0 was fresh → seen ≡ true → 2 * n ≤ length was → Compared fresh kept n false
    → Adds m n v kept kept seen true
adds_left {m = m} {n = n} {v = v} {kept = kept} e w s space b old room l =
    lowest_kept (subst (Lowest m n v old kept) s l) (counted m v e w) room space b

-- After all full lines the store holds the least schedule, where n is the steps of a shortest one.
pub lowest_all : {m : Model} {n : ℕ} {old new : List ℕ} {seen : Bool} → Fits m → Judged m (found n)
    → Lowest m n (m.g ^ (2 * m.k)) old new seen → Stored (First (Reaches m) n) n 0 old new
lowest_all f j (none p e) = absurd (lowest_some f j (none p e))
lowest_all f j (some s) = lowest_ends f (some s)
