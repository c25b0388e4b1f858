-- What is left after a step, by the right side of its rule: the new symbols come on top of the levels, and where there is none the
-- highest level's symbol is on top.
use mathlib.Core.List.{List, ◌∷◌}
use mathlib.Core.Path.{◌≡◌, refl}
use Prim.Native.Nat.{ℕ, zero, suc, ◌-◌, ◌≤◌, ◌<◌}
use native.Mathlib.Nat.{le_refl}
use native.Mathlib.Omega.{arith}
use lib.ListN.{get_or}
use Rattle.model.specs.declared.Right.TheVariants.{Remove, Swap, Push}
use Rattle.model.specs.declared.Rule.{Rule}
use Rattle.model.specs.declared.Symbol.{Symbol}
use Rattle.run.specs.declared.head.Head.{Head}
use Rattle.run.specs.declared.head.Onward.{Onward}
use Rattle.run.specs.declared.head.Onward.TheVariants.{Done, One, Two}
use Rattle.run.specs.Levels.{below, stack_of, Steps, Removes, Goes}

-- The highest level's symbol stands first.
below_some : (symbols : List ℕ) (i : ℕ) → 0 < i → below symbols i ≡ get_or symbols i 0 ∷ below symbols (i - 1)
below_some symbols zero h = absurd (omega arith)
below_some symbols (suc i) h = let e : suc i - 1 ≡ i = omega arith in rw e

-- The symbol is gone.
pub removed_goes : (symbols : List ℕ) (h : Head) (r : Rule) (x : Onward) → ((i : ℕ) → get_or symbols i 0 ≤ 16) → Removes symbols h r.after.0 x
    → r.right ≡ Remove → Goes symbols h r x
removed_goes symbols h r Done f p e = rw (e, p)
removed_goes symbols h r (One next) f p e =
    rw p.1
    (record { passed = refl; control = refl; symbol = f h.under; under = omega arith; stack = rw e (below_some symbols h.under p.0) })
removed_goes symbols h r (Two next b) f p e = absurd p

-- Another one stands in its place.
pub swapped_goes : (symbols : List ℕ) (h : Head) (r : Rule) (next : Head) (a : Symbol) → r.right ≡ Swap a → a.0 < 16
    → next ≡ record { passed = h.passed; control = r.after.0; symbol = a.0; under = h.under }
    → Steps symbols h r next (stack_of symbols next)
swapped_goes symbols h r next a e l p =
    rw p (record { passed = refl; control = refl; symbol = omega arith; under = le_refl h.under; stack = rw e })

-- Two stand in its place.
pub pushed_goes : (symbols : List ℕ) (h : Head) (r : Rule) (next : Head) (a b : Symbol) → r.right ≡ Push a b → (a.0 < 16) × (b.0 < 16)
    → next ≡ record { passed = h.passed; control = r.after.0; symbol = a.0; under = h.under }
    → Steps symbols h r next (next.symbol ∷ b.0 ∷ below symbols next.under) × (b.0 ≤ 16)
pushed_goes symbols h r next a b e l p = (
  rw p (record { passed = refl; control = refl; symbol = omega arith; under = le_refl h.under; stack = rw e }),
  omega arith,
)
