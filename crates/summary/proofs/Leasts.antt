-- Least numbers of steps: runs of two kinds that have the same steps have the same.
use mathlib.Core.List.{List}
use Prim.Native.Nat.{ℕ}
use Rattle.summary.specs.Table.{Least}

module _ {S : Type 0} {P : List S → Type 0} where
  -- The same for another kind of runs with the same steps.
  pub least_as : {Q : List S → Type 0} {count : ℕ} → ((ss : List S) → P ss → Q ss) → ((ss : List S) → Q ss → P ss)
      → Least P count → Least Q count
  least_as f g p =
      record {
        some = λ h. let r = p.some h in (r.0, f r.0 r.1, r.2);
        least = λ {ss} q. p.least (g ss q);
      }
