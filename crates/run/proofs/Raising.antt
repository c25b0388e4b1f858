-- A level is raised place by place: what a place gets is read off the level below, which stays.
use mathlib.Core.List.{List}
use mathlib.Core.Path.{◌≡◌, refl, ◌∙◌}
use Prim.Native.Nat.{ℕ, zero, suc, ◌+◌, ◌*◌, ◌%◌, ◌≤◌, ◌<◌}
use native.Mathlib.Decide.{ℕ_discrete}
use native.Mathlib.Nat.{zero-add}
use native.Mathlib.Omega.{arith}
use lib.ListN.{length, get_or, set, length-set}
use lib.Seq.{get_or-set_same, get_or-set_other}
use Rattle.run.specs.Exits.{exit_at, least_over}
use Rattle.run.specs.Levels.{levels_size, level_at, over_level}

-- The least over the ways looks at the first places alone.
over_same : (row rest other : ℕ → ℕ) (k : ℕ) → ((y : ℕ) → y < k → rest y ≡ other y) → least_over row rest k ≡ least_over row other k
unfolding least_over
over_same row rest other zero h = refl
over_same row rest other (suc k) h = rw (over_same row rest other k (λ y l. h y (omega arith)), h k (omega arith))

-- The places of controls from one on and before x are raised, and all below the level is kept.
pub record Raising (exits old new : List ℕ) (controls i γ from x : ℕ) : Type 0 where
  pub size : length new ≡ levels_size
  pub kept : (k : ℕ) → k < 24 * (i + 1) → get_or new k 0 ≡ get_or old k 0
  pub done : (y : ℕ) → from ≤ y → y < x → y % 8 < controls → level_at new (i + 1) y ≡ over_level exits old i γ y

-- At first nothing is.
pub raising_none : {exits old : List ℕ} {controls i γ from : ℕ} → length old ≡ levels_size → Raising exits old old controls i γ from from
raising_none size = record { size = size; kept = λ k h. refl; done = λ y h k c. absurd (omega arith) }

-- A place that no control has stays.
pub raising_over : {exits old new : List ℕ} {controls i γ from x : ℕ} → controls ≤ x % 8 → Raising exits old new controls i γ from x
    → Raising exits old new controls i γ from (x + 1)
raising_over {controls = controls} {x = x} none r = record { size = r.size; kept = r.kept; done = λ y a b c. r.done y a (below y b c) c }
  where
    below : (y : ℕ) → y < x + 1 → y % 8 < controls → y < x
    below y b c =
        elim (ℕ_discrete y x) [
          | yes s ↦ absurd (let t : x % 8 < controls = rw s at c in omega arith)
          | no s ↦ omega arith
        ]

-- One place more.
pub raising_one : {exits old new : List ℕ} {controls i γ from x count : ℕ} → Raising exits old new controls i γ from x → i + 1 < 4096
    → x < 24 → count ≡ over_level exits new i γ x → Raising exits old (set new (24 * (i + 1) + x) count) controls i γ from (x + 1)
raising_one {exits} {old} {new} {controls} {i} {γ} {from} {x} {count} r low h e =
    record {
      size = length-set new _ _ ∙ r.size;
      kept = λ k l. get_or-set_other new (24 * (i + 1) + x) k count 0 (λ s. omega arith) ∙ r.kept k l;
      done = done;
    }
  where
    same : over_level exits new i γ x ≡ over_level exits old i γ x
    same = over_same (exit_at exits x γ) (level_at new i) (level_at old i) 24 (λ y l. r.kept (24 * i + y) (omega arith))

    done : (y : ℕ) → from ≤ y → y < x + 1 → y % 8 < controls
        → level_at (set new (24 * (i + 1) + x) count) (i + 1) y ≡ over_level exits old i γ y
    done y a b c =
        elim (ℕ_discrete y x) [
          | yes s ↦ rw s (get_or-set_same new (24 * (i + 1) + x) count 0 (omega (arith, r.size)) ∙ (e ∙ same))
          | no s ↦
              get_or-set_other new (24 * (i + 1) + x) (24 * (i + 1) + y) count 0 (λ t. s (omega arith)) ∙ r.done y a (omega arith) c
        ]

-- The lowest level is made for the places before x.
pub record Grounding (exits levels : List ℕ) (x : ℕ) : Type 0 where
  pub size : length levels ≡ levels_size
  pub low : x ≤ 24
  pub done : (y : ℕ) → y < x → level_at levels 0 y ≡ exit_at exits y 16 24

-- One place more.
pub grounding_one : {exits levels : List ℕ} {x count : ℕ} → Grounding exits levels x → x < 24 → count ≡ exit_at exits x 16 24
    → Grounding exits (set levels x count) (x + 1)
grounding_one {exits} {levels} {x} {count} g h e =
    record { size = length-set levels x count ∙ g.size; low = omega arith; done = done }
  where
    done : (y : ℕ) → y < x + 1 → level_at (set levels x count) 0 y ≡ exit_at exits y 16 24
    done y l =
        elim (ℕ_discrete y x) [
          | yes s ↦ rw (s, zero-add x) (get_or-set_same levels x count 0 (omega (arith, g.size)) ∙ e)
          | no s ↦ rw (zero-add y) (get_or-set_other levels x y count 0 (λ t. s t) ∙ rw (zero-add y) at (g.done y (omega arith)))
        ]
