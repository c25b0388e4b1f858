-- The fewest steps so far: a line that does not end in the target changes nothing, and one that does is taken where its two costs together
-- are fewer.
use mathlib.Core.List.{List}
use mathlib.Core.Logic.{⊎_elim}
use mathlib.Core.Path.{◌≡◌}
use Prim.Native.Nat.{ℕ, ◌+◌, ◌%◌, ◌≤◌}
use native.Mathlib.Decide.{ℕ_discrete}
use native.Mathlib.Omega.{arith}
use lib.ListN.{get_or}
use Rattle.summary.specs.Edges.{best_of}
use Rattle.summary.proofs.Relaxing.{better}
use Rattle.judge.specs.Best.{Open, Best}
use Rattle.summary.specs.Table.{unreached, cap, capped}

module _ {g target : ℕ} {a b : List ℕ} where
  -- A line that is open among those up to n was open before, if it is not n.
  earlier : {n v : ℕ} → (v ≡ n → ⊥) → Open g target (n + 1) a b v → Open g target n a b v
  earlier h o = record { low = omega (arith, o.low, h); ends = o.ends; first = o.first; second = o.second }

  -- A line that is open stays so.
  later : {n v : ℕ} → Open g target n a b v → Open g target (n + 1) a b v
  later o = record { low = omega (arith, o.low); ends = o.ends; first = o.first; second = o.second }

  -- Among no lines there is none.
  pub best_none : Best g target 0 a b unreached
  best_none = record { some = λ h. absurd (omega arith); least = λ v o. absurd (omega (arith, o.low)) }

  -- A line that ends elsewhere changes nothing.
  pub best_passed : {n old : ℕ} → (n % g ≡ target → ⊥) → Best g target n a b old → Best g target (n + 1) a b old
  best_passed {n} h p =
      record {
        some = λ l. let s = p.some l in (s.0, later s.1, s.2);
        least = λ v o. p.least v (earlier (λ e. h (rw e at o.ends)) o);
      }

  -- One that does is joined to those before it: its steps are taken where they are fewer, and no open line has fewer than that.
  pub best_joined : {n old steps : ℕ} → n % g ≡ target → steps ≡ best_of 0 (get_or a n 0) (get_or b n 0) old → Best g target n a b old
      → Best g target (n + 1) a b steps
  best_joined {n} {old} {steps} t e p = record { some = some; least = least }
    where
      some : steps ≤ cap → (v : ℕ) × Open g target (n + 1) a b v × (capped (get_or a v 0 + get_or b v 0) ≡ steps)
      some l =
          ⊎_elim (λ s. let o = p.some (omega arith) in (o.0, later o.1, omega (arith, o.2)))
          (λ s. (n, record { low = omega arith; ends = t; first = s.0; second = s.1 }, omega (arith, s.2)))
          (better 0 (get_or a n 0) (get_or b n 0) old).which

      least : (v : ℕ) → Open g target (n + 1) a b v → (steps ≤ cap) × (steps ≤ get_or a v 0 + get_or b v 0)
      least v o =
          let r = better 0 (get_or a n 0) (get_or b n 0) old in
          elim (ℕ_discrete v n) [
            | yes s ↦
                let m = r.most (rw s at o.first) (rw s at o.second) in
                rw s (omega (arith, m.0), omega (arith, m.1))
            | no s ↦ let m = p.least v (earlier s o) in (omega (arith, m.0, r.low), omega (arith, m.1, r.low))
          ]
