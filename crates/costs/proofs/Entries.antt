-- The entries that the cost of a line reads: with a turn end inside, a stretch's cell goes by the lane of the last one.
use mathlib.Core.List.{List}
use mathlib.Core.Path.{◌≡◌, refl, sym}
use Prim.Native.Nat.{ℕ, zero, suc, ◌+◌, ◌-◌, ◌≤◌}
use native.Mathlib.Nat.{sub-zero}
use native.Mathlib.Numerals.{add-one}
use native.Mathlib.Omega.{arith}
use borrow.Author.Tests.{le-leb}
use Rattle.model.specs.Tops.{Top}
use Rattle.summary.specs.Cells.{free_of, stays_of}
use Rattle.summary.specs.Control.{Control, number, TurnEnd, dest, cell_from, entry}
use Rattle.summary.specs.Edges.{cell, best_of}
use Rattle.summary.specs.Stretch.{End, pop, stay, end_of}
use Rattle.costs.specs.Cost.{control, over_states, over_turns}
use Rattle.costs.specs.Lanes.{cell_at, LaneTo}

-- The cell of a stretch, by the lane.
pub cell_at_lem : (N : ℕ) (ends : ℕ → TurnEnd) (k j q p γ d l : ℕ) → q ≡ j + k → k ≤ 2 → LaneTo ends q l
    → cell_from N ends k j p γ d ≡ cell_at N k p γ d l
cell_at_lem N ends zero j q p γ d l e two h = refl
cell_at_lem N ends (suc zero) j q p γ d l e two h = let s : q ≡ suc j = omega arith in rw (rw s at h)
cell_at_lem N ends (suc (suc zero)) j q p γ d l e two h = let s : q ≡ suc (suc j) = omega arith in rw (rw s at h)
cell_at_lem N ends (suc (suc (suc k))) j q p γ d l e two h = absurd (omega arith)

module _ (N : ℕ) (ends : ℕ → TurnEnd) (tab : List ℕ) where
  -- The entry of a stretch that ends in the same turn or a later one, by the numbers of its control and its destination.
  pub entry_at : (c : Control) (p γ l : ℕ) (d : End Control) (x : ℕ) → number c ≡ p → dest d ≡ x → c.passed ≤ (end_of d).passed
      → (end_of d).passed ≤ 2 → LaneTo ends (end_of d).passed l
      → entry N ends tab c γ d ≡ cell tab (cell_at N ((end_of d).passed - c.passed) p γ x l)
  entry_at c p γ l d x ep ex h two e =
      rw (
        le-leb c.passed (end_of d).passed h,
        cell_at_lem N ends ((end_of d).passed - c.passed) c.passed (end_of d).passed (number c) γ (dest d) l (omega arith) (omega arith) e,
        ep,
        ex,
      )

  module _ (n from γ : ℕ) (top : Top) (to dst last : ℕ) (is : dst ≡ stays_of top + to) (two : n ≤ 2) (lastly : LaneTo ends n last) where
    -- The runs whose symbol never goes.
    pub none_gone : (x : ℕ) → x ≡ cell tab (cell_at N n from γ dst last)
        → x ≡ over_turns N ends tab (control 0 from) γ top (control n to) 0
    unfolding over_turns
    none_gone x e =
        rw (entry_at (control 0 from) from γ last (stay top (control n to)) dst (omega arith) (sym is) (omega arith) two lastly, sub-zero) e

    -- One state more.
    pub one_more : (j before q old best x y new : ℕ) → j ≤ n → LaneTo ends j before
        → x ≡ cell tab (cell_at N j from γ q before) → y ≡ cell tab (cell_at N (n - j) q 16 dst last)
        → new ≡ best_of 0 x y best → best ≡ over_states N ends tab (control 0 from) γ top (control n to) j q old
        → new ≡ over_states N ends tab (control 0 from) γ top (control n to) j (q + 1) old
    unfolding over_states
    one_more j before q old best x y new h l ex ey en eb =
        rw (
          add-one q,
          entry_at (control 0 from) from γ before (pop (control j q)) q (omega arith) (omega arith) (omega arith) (omega arith) l,
          sub-zero j,
          entry_at (control j q) q 16 last (stay top (control n to)) dst (omega arith) (sym is) h two lastly,
          ← ex,
          ← ey,
          ← eb,
        ) en

-- One number of turn ends more.
pub turn_more : (N : ℕ) (ends : ℕ → TurnEnd) (tab : List ℕ) (c d : Control) (top : Top) (γ j best new : ℕ)
    → new ≡ over_states N ends tab c γ top d j (free_of N) best → best ≡ over_turns N ends tab c γ top d j
    → new ≡ over_turns N ends tab c γ top d (j + 1)
unfolding over_turns
turn_more N ends tab c d top γ j best new e f = rw (add-one j, ← f) e
