-- A table in which the edges of a thread hold is closed under the thread's moves and turn ends: each way that a stretch
-- can go on is one edge, by the number of turn ends inside its parts.
use mathlib.Core.Bool.{false}
use mathlib.Core.List.{List}
use mathlib.Core.Path.{◌≡◌, refl, sym, ap, ◌∙◌}
use Prim.Native.Nat.{ℕ, suc, ◌+◌, ◌-◌, ◌≤◌, ◌<◌}
use native.Mathlib.Nat.{add-zero}
use native.Mathlib.Decide.{dec_le}
use native.Mathlib.Omega.{arith}
use borrow.Author.Tests.{le-leb, lt-leb}
use Rattle.model.specs.Bits.{one_if}
use Rattle.model.specs.declared.Right.{Right}
use Rattle.model.specs.declared.Right.TheVariants.{Remove, Swap, Push}
use Rattle.model.specs.declared.Symbol.{Symbol}
use Rattle.model.specs.declared.Thread.{Thread}
use Rattle.model.specs.Tops.{Top}
use Rattle.std.specs.Prelude.{None, Some}
use Rattle.model.specs.Walk.{Step}
use Rattle.model.proofs.Inside.{applies_iff}
use Rattle.model.proofs.Tests.{equal}
use Rattle.summary.specs.Sizes.{shape_of}
use Rattle.summary.specs.Cells.{plain, lane_of, free_of, first, second, rest, blank, TopEdges, plain_by, lane_by, cross_by}
use Rattle.summary.specs.Cells.{FirstEnds, SecondEnds, Rules}
use Rattle.summary.specs.Control.{Control, number, TurnEnd, Moves, Switches, dest, cell_from, entry, InTable, Known, any, named, Stays}
use Rattle.summary.specs.Control.{EndInTable, Inside}
use Rattle.summary.specs.Edges.{Edge, cell, EdgeHolds}
use Rattle.summary.specs.Stretch.{End, pop, stay, end_of, OnTop}
use Rattle.summary.specs.Table.{cap}
use Rattle.summary.proofs.Ranging.{Sym}
use Rattle.summary.proofs.Tables.{Ranged, AtMost, Closed}
use Rattle.summary.proofs.Joins.{blank_here, RuleEdgesHold, top_at, remove_at, swap_at, above_at, both_at, changed}
use Rattle.summary.proofs.Numbers.{gone_number, flag_low, dest_low, stay_span}

-- The edges that hold in a table of N controls for a top, by the number of turn ends of the line.
pub record EdgesHold (t : Thread) (top : Top) (N n : ℕ) (ends : ℕ → TurnEnd) (tab : List ℕ) : Type 0 where
  pub low : (k : ℕ) → k < first N → cell tab k ≤ blank N k
  pub tops : (e : Edge) → TopEdges top N e → EdgeHolds tab e
  pub plains : (e : Edge) → Rules t N (plain_by (shape_of top N)) e → EdgeHolds tab e
  pub ends1 : 1 ≤ n → (e : Edge) → FirstEnds (shape_of top N) e → EdgeHolds tab e
  pub lanes1 : 1 ≤ n → (e : Edge) → Rules t N (lane_by (shape_of top N) (first N)) e → EdgeHolds tab e
  pub ends2 : 2 ≤ n → (e : Edge) → SecondEnds (shape_of top N) (ends 0).leave (ends 0).enter e → EdgeHolds tab e
  pub cross2 : 2 ≤ n → (e : Edge) → Rules t N (cross_by (shape_of top N) (lane_of (ends 0).leave (ends 0).enter)) e → EdgeHolds tab e
  pub lanes2 : 2 ≤ n → (e : Edge) → Rules t N (lane_by (shape_of top N) (second N)) e → EdgeHolds tab e

module _ {t : Thread} {top : Top} {N n : ℕ} (turn_of : ℕ → ℕ) {ends : ℕ → TurnEnd} {tab : List ℕ} (some : 1 ≤ N) (eight : N ≤ 8) (two : n ≤ 2)
    (inside : Inside (free_of N) n ends) (ranges : Ranged (Moves t turn_of) (Switches ends n) (InTable N n) Sym) (R : EdgesHold t top N n ends tab) where
  abbrev Ctl : Control → Type 0
  Ctl c = InTable N n c

  -- The edges of the rule of a move.
  ready : {c d : Control} {γ : ℕ} {s : Step} {x : Right} → Ctl c → Moves t turn_of c γ s x d
      → RuleEdgesHold (shape_of top N) n ends tab (number c) γ (number d) x
  ready {c} {d} {γ} {s} {x} p m =
      record {
        plains = moved (plain_by (shape_of top N)) R.plains;
        lanes1 = λ h. moved (lane_by (shape_of top N) (first N)) (R.lanes1 h);
        cross2 = λ h. moved (cross_by (shape_of top N) (lane_of (ends 0).leave (ends 0).enter)) (R.cross2 h);
        lanes2 = λ h. moved (lane_by (shape_of top N) (second N)) (R.lanes2 h);
      }
    where
      moved : (F : ℕ → ℕ → ℕ → Right → Edge → Type 0) → ((e : Edge) → Rules t N F e → EdgeHolds tab e)
          → (e : Edge) → F (number c) γ (number d) x e → EdgeHolds tab e
      moved F h e f =
          let a = (applies_iff t s.rule c.shared γ).0 m.rule in
          h e
          (record {
            i = one_if c.held;
            inside = flag_low N c.held c.shared p.number;
            at = record {
              i = s.rule;
              inside = a.listed;
              at = rw (a.state, a.symbol, m.right, ← m.shared, ← m.held) f;
            };
          })

  -- The entry of a stretch with k turn ends inside.
  entry_at : (c : Control) (γ : ℕ) (d : End Control) (j k : ℕ) → c.passed ≡ j → j + k ≡ (end_of d).passed
      → entry N ends tab c γ d ≡ cell tab (cell_from N ends k j (number c) γ (dest d))
  entry_at c γ d j k p e =
      let h : c.passed ≤ (end_of d).passed = omega arith in
      let g : (end_of d).passed - c.passed ≡ k = omega arith in
      rw (le-leb c.passed (end_of d).passed h, g) (ap (λ i. cell tab (cell_from N ends k i (number c) γ (dest d))) p)

  -- An entry that is reached has a number of turn ends inside.
  gap : (c : Control) (γ : ℕ) (d : End Control) → entry N ends tab c γ d ≤ cap → (k : ℕ) × (c.passed + k ≡ (end_of d).passed)
  gap c γ d h =
      elim (dec_le c.passed (end_of d).passed) [
        | yes l ↦ ((end_of d).passed - c.passed, omega arith)
        | no l ↦ absurd (omega (arith, rw (lt-leb c.passed (end_of d).passed (omega arith)) at h))
      ]

  -- The cell that is 0.
  at_rest : cell tab rest ≡ 0
  unfolding blank
  at_rest =
      let h = R.low 4 (omega arith) in
      let z = blank_here N 0 0 (omega arith) (omega arith) in
      omega arith

  -- The table is closed.
  pub closed : Closed (Moves t turn_of) (Switches ends n) Ctl Sym (Stays top) (entry N ends tab)
  closed =
      record {
        here = here;
        remove = remove;
        swap = swap;
        both = both;
        above = above;
        change = change;
      }
    where
      -- A control that no held step has led to is its state.
      clear : (c : Control) → c.held ≡ false → number c ≡ c.shared
      clear c h = rw h (omega arith)

      here : (f : Top) (c : Control) (γ : ℕ) → Ctl c → Sym γ → Stays top f c → OnTop f γ → AtMost (entry N ends tab c γ (stay f c)) 0
      here f c γ p q k o =
          let same = clear c k.free in
          rw (entry_at c γ (stay f c) c.passed 0 refl (add-zero c.passed), same) (stays f k.known o R.tops)
        where
          stays : {top : Top} (f : Top) → Known top f → OnTop f γ → ((e : Edge) → TopEdges top N e → EdgeHolds tab e)
              → AtMost (cell tab (cell_from N ends 0 c.passed c.shared γ (dest (stay f c)))) 0
          stays None any o h =
              let same = clear c k.free in
              let l = R.low (plain c.shared γ (4 + c.shared)) (omega (arith, p.number, p.shared)) in
              let b = blank_here N c.shared γ (omega (arith, p.number, p.shared)) q in
              record { reached = omega arith; most = omega arith }
          stays (Some s) named o h =
              let same = clear c k.free in
              let on : γ ≡ s.0 = (equal γ s.0).0 o in
              rw on (top_at (shape_of top N) tab two inside at_rest s c.passed c.shared (omega (arith, p.number, p.shared)) h)

      remove : {c c₁ : Control} {γ : ℕ} {s : Step} → Ctl c → Sym γ → Moves t turn_of c γ s Remove c₁
          → AtMost (entry N ends tab c γ (pop c₁)) 1
      remove {c} {c₁} {γ} p q m =
          rw (entry_at c γ (pop c₁) c.passed 0 refl (add-zero c.passed ∙ sym m.passed), ← gone_number c₁ (ranges.moves p m).0.shared)
          (remove_at (shape_of top N) tab two inside at_rest c.passed (ready p m))

      swap : {c c₁ : Control} {γ : ℕ} {s : Step} {a : Symbol} (d : End Control) → Ctl c → Sym γ → EndInTable top N n d
          → Moves t turn_of c γ s (Swap a) c₁ → entry N ends tab c₁ a.0 d ≤ cap
          → AtMost (entry N ends tab c γ d) (1 + entry N ends tab c₁ a.0 d)
      swap {c} {c₁} {γ} {a = a} d p q o m h =
          let k = gap c₁ a.0 d h in
          let one = entry_at c γ d c.passed k.0 refl (ap (λ i. i + k.0) (sym m.passed) ∙ k.1) in
          let two' = entry_at c₁ a.0 d c.passed k.0 m.passed (ap (λ i. i + k.0) (sym m.passed) ∙ k.1) in
          rw (one, two') (swap_at (shape_of top N) tab two inside at_rest k.0 c.passed (dest d) (omega (arith, o.0.passed)) (dest_low top N d eight o) (ready p m) (rw two' at h))

      both : {c c₁ : Control} {γ : ℕ} {s : Step} {a b : Symbol} (q : Control) (d : End Control) → Ctl c → Sym γ
          → Ctl q → EndInTable top N n d
          → Moves t turn_of c γ s (Push a b) c₁ → entry N ends tab c₁ a.0 (pop q) ≤ cap → entry N ends tab q b.0 d ≤ cap
          → AtMost (entry N ends tab c γ d) (1 + entry N ends tab c₁ a.0 (pop q) + entry N ends tab q b.0 d)
      both {c} {c₁} {γ} {a = a} {b = b} q d p z o y m h g =
          let i = gap c₁ a.0 (pop q) h in
          let k = gap q b.0 d g in
          let from : c.passed + i.0 ≡ q.passed = ap (λ j. j + i.0) (sym m.passed) ∙ i.1 in
          let at = sym (gone_number q o.shared) in
          let all = entry_at c γ d c.passed (i.0 + k.0) refl (omega (arith, k.1)) in
          let one = entry_at c₁ a.0 (pop q) c.passed i.0 m.passed from in
          let other = entry_at q b.0 d q.passed k.0 refl k.1 in
          rw (all, one, other, at)
          (both_at (shape_of top N) tab two inside at_rest i.0 k.0 c.passed q.passed (number q) (dest d) from (omega (arith, k.1, y.0.passed)) o.number (dest_low top N d eight y) (ready p m)
          (rw (one, at) at h) (rw other at g))

      above : {c c₁ : Control} {γ : ℕ} {s : Step} {a b : Symbol} (f : Top) (q : Control) → Ctl c → Sym γ → Ctl q → Stays top f q
          → Moves t turn_of c γ s (Push a b) c₁ → entry N ends tab c₁ a.0 (stay f q) ≤ cap
          → AtMost (entry N ends tab c γ (stay f q)) (1 + entry N ends tab c₁ a.0 (stay f q))
      above {c} {c₁} {γ} {a = a} f q p z o y m h =
          let k = gap c₁ a.0 (stay f q) h in
          let from : c.passed + k.0 ≡ q.passed = ap (λ j. j + k.0) (sym m.passed) ∙ k.1 in
          let span = stay_span top f q y.known o.shared in
          let one = entry_at c γ (stay f q) c.passed k.0 refl from in
          let other = entry_at c₁ a.0 (stay f q) c.passed k.0 m.passed from in
          rw (one, other)
          (above_at (shape_of top N) tab two inside at_rest k.0 c.passed (dest (stay f q)) (omega (arith, o.passed)) span.0 span.1 (ready p m)
          (rw other at h))

      change : {c c₁ : Control} (γ : ℕ) (d : End Control) → Ctl c → Sym γ → EndInTable top N n d
          → Switches ends n c c₁ → entry N ends tab c₁ γ d ≤ cap → AtMost (entry N ends tab c γ d) (entry N ends tab c₁ γ d)
      change {c} {c₁} γ d p q o s h =
          let k = gap c₁ γ d h in
          let end : c.passed + suc k.0 ≡ (end_of d).passed = omega (arith, k.1, s.passed) in
          let one = entry_at c γ d c.passed (suc k.0) refl end in
          let other = entry_at c₁ γ d (suc c.passed) k.0 s.passed (omega arith) in
          rw (one, other)
          (changed (shape_of top N) tab two inside at_rest k.0 c.passed γ (dest d) (number c) (number c₁) (clear c s.free ∙ s.leave) (clear c₁ s.fresh ∙ s.enter)
          (omega (arith, o.0.passed)) q (dest_low top N d eight o) R.ends1 R.ends2 (rw other at h))
