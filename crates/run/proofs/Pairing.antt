-- A symbol put onto the levels: its own level is known, since it is read off the one below, and those below stay.
use mathlib.Core.List.{List, ◌∷◌}
use mathlib.Core.Path.{◌≡◌, refl}
use Prim.Native.Nat.{ℕ, zero, suc, ◌+◌, ◌*◌, ◌%◌, ◌≤◌, ◌<◌}
use native.Mathlib.Decide.{ℕ_discrete}
use native.Mathlib.Numerals.{add-one}
use native.Mathlib.Omega.{arith}
use lib.ListN.{length, get_or, replicate, set}
use lib.Seq.{get_or-set_same, get_or-set_other}
use Rattle.summary.specs.Control.{Control}
use Rattle.run.specs.declared.head.Head.{Head}
use Rattle.run.specs.Exits.{place, Togo, Setting, Runs}
use Rattle.run.specs.Levels.{below, level_at, stack_of, over_level, Known, Ready}
use Rattle.run.specs.declared.plan.Plan.{Plan}
use Rattle.run.proofs.Togos.{In, eight, place_low, level}

-- A symbol stored above leaves those below.
below_kept : (symbols : List ℕ) (b k i : ℕ) → i < k → below (set symbols k b) i ≡ below symbols i
below_kept symbols b k zero h = refl
below_kept symbols b k (suc i) h = rw (get_or-set_other symbols k (suc i) b 0 (λ e. omega arith), below_kept symbols b k i (omega arith))

-- With the symbol on top of them.
below_put : (symbols : List ℕ) (b i : ℕ) → length symbols ≡ 4096 → i + 1 < 4096 → below (set symbols (i + 1) b) (i + 1) ≡ b ∷ below symbols i
below_put symbols b i size h =
    rw (add-one i) (rw (get_or-set_same symbols (suc i) b 0 (omega arith), below_kept symbols b (suc i) i (omega arith)))

-- The whole stack of a head over it.
pub put_stack_lem : (symbols : List ℕ) (h next : Head) (b i : ℕ) → length symbols ≡ 4096 → i + 1 < 4096
    → next ≡ record { passed = h.passed; control = h.control; symbol = h.symbol; under = i + 1 }
    → stack_of (set symbols (i + 1) b) next ≡ h.symbol ∷ b ∷ below symbols i
put_stack_lem symbols h next b i size room is = rw (is, below_put symbols b i size room)

-- Where none stands they are in range.
pub none_fit : (n i : ℕ) → get_or (replicate n 0) i 0 ≤ 16
none_fit zero i = omega arith
none_fit (suc n) zero = omega arith
none_fit (suc n) (suc i) = none_fit n i

module _ {exits : List ℕ} {plan : Plan} (w : Setting exits plan) {levels new symbols : List ℕ} {j i b : ℕ} (size : length symbols ≡ 4096)
    (room : i + 1 < 4096) (fits : b ≤ 16) (kept : (k : ℕ) → k < 24 * (i + 1) → get_or new k 0 ≡ get_or levels k 0)
    (raised : (x : ℕ) → 8 * j ≤ x → x < 8 * plan.n + 8 → x % 8 < plan.controls → level_at new (i + 1) x ≡ over_level exits levels i b x)
    (known : Known w levels symbols j i) where
  -- The level of the symbol, and those below.
  pub put_known : Known w new (set symbols (i + 1) b) j (i + 1)
  put_known = record { at = at }
    where
      own : (c : Control) → In w c → j ≤ c.passed → Togo (Runs w c (b ∷ below symbols i)) (level_at new (i + 1) (place c))
      own c p h =
          let e = eight w in
          rw (raised (place c) (omega arith) (omega (arith, p.passed, p.number, e)) (omega (arith, p.number, e)))
          (level w c p b fits (below symbols i) (level_at levels i) (λ q l m. known.at i (omega arith) q l (omega arith)))

      at : (k : ℕ) → k ≤ i + 1 → (c : Control) → In w c → j ≤ c.passed
          → Togo (Runs w c (below (set symbols (i + 1) b) k)) (level_at new k (place c))
      at k l c p h =
          elim (ℕ_discrete k (i + 1)) [
            | yes e ↦ rw (e, below_put symbols b i size room) (own c p h)
            | no e ↦
                let low : k < i + 1 = omega arith in
                rw (below_kept symbols b (i + 1) k low, kept (24 * k + place c) (omega (arith, place_low w c p)))
                (known.at k (omega arith) c p h)
          ]

  -- So the stretch writer can go on with the upper symbol.
  pub put_ready : {h : Head} {count : ℕ} (next : Head) → Ready w levels symbols h (h.symbol ∷ b ∷ below symbols i) count → h.passed ≡ j
      → next ≡ record { passed = h.passed; control = h.control; symbol = h.symbol; under = i + 1 }
      → Ready w new (set symbols (i + 1) b) next (stack_of (set symbols (i + 1) b) next) count
  put_ready next ready same is =
      rw (is, below_put symbols b i size room)
      (record { known = rw (← same) at put_known; togo = ready.togo })
