-- The ways that a stretch goes on, as edges of the table: at which cells each stands, by the number of turn ends inside its
-- parts.
use mathlib.Core.List.{List}
use mathlib.Core.Logic.{inl, inr}
use mathlib.Core.Path.{◌≡◌, refl, sym, ap, subst, ◌∙◌}
use Prim.Native.Nat.{ℕ, zero, suc, ◌+◌, ◌-◌, ◌*◌, ◌/◌, ◌%◌, ◌≤◌, ◌<◌}
use native.Mathlib.Nat.{add-zero, le_trans}
use native.Mathlib.Omega.{arith}
use borrow.Author.Tests.{lt-ltb, eq-eqb}
use Rattle.model.specs.declared.Right.{Right}
use Rattle.model.specs.declared.Right.TheVariants.{Remove, Swap, Push}
use Rattle.model.specs.declared.Symbol.{Symbol}
use Rattle.std.specs.Prelude.{Some}
use Rattle.summary.specs.Sizes.{Sizes}
use Rattle.summary.specs.Cells.{plain, gone, lane_of, free_of, first, second, rest, blank, TopEdges, plain_by, lane_by, cross_by}
use Rattle.summary.specs.Cells.{FirstEnds, SecondEnds}
use Rattle.summary.specs.Control.{TurnEnd, cell_from, Inside}
use Rattle.summary.specs.Edges.{Edge, cell, EdgeHolds, Row}
use Rattle.summary.specs.Table.{cap}
use Rattle.summary.proofs.Tables.{AtMost}

-- Staying in place is 0 in the blank table.
pub blank_here : (N p γ : ℕ) → p < free_of N → γ ≤ 16 → blank N (plain p γ (4 + p)) ≡ 0
unfolding blank
blank_here N p γ h k =
    let low : plain p γ (4 + p) < first (free_of N) = omega arith in
    let m : plain p γ (4 + p) % 16 ≡ 4 + p = omega arith in
    let q : plain p γ (4 + p) / 272 ≡ p = omega arith in
    rw (lt-ltb (plain p γ (4 + p)) (first (free_of N)) low, eq-eqb (plain p γ (4 + p) % 16) (4 + plain p γ (4 + p) / 272) (m ∙ ap (λ i. 4 + i) (sym q)))

-- An edge of a row, at the cells that it joins.
in_row : {tab : List ℕ} {w K A B N : ℕ} → ((e : Edge) → Row w K A B N e → EdgeHolds tab e) → (x : ℕ) → x < N → {k b : ℕ}
    → K + x ≡ k → B + x ≡ b
    → cell tab A ≤ cap → cell tab b ≤ cap → AtMost (cell tab k) (w + cell tab A + cell tab b)
in_row {tab} {w} {K} {A} {B} h x i {k} {b} p q u v =
    let e = h (record { w = w; to = K + x; a = A; b = B + x }) (record { x = x; inside = i; is = refl }) in
    let v' : cell tab (B + x) ≤ cap = rw q v in
    subst (λ k. AtMost (cell tab k) (w + cell tab A + cell tab b)) p
    (subst (λ b. AtMost (cell tab (K + x)) (w + cell tab A + cell tab b)) q (record { reached = e.reached u v'; most = e.most u v' }))

-- The edges of one rule hold, from control p with γ on top to control h.
pub record RuleEdgesHold (sh : Sizes) (n : ℕ) (ends : ℕ → TurnEnd) (tab : List ℕ) (p γ h : ℕ) (x : Right) : Type 0 where
  pub plains : (e : Edge) → plain_by sh p γ h x e → EdgeHolds tab e
  pub lanes1 : 1 ≤ n → (e : Edge) → lane_by sh (first sh.controls) p γ h x e → EdgeHolds tab e
  pub cross2 : 2 ≤ n → (e : Edge) → cross_by sh (lane_of (ends 0).leave (ends 0).enter) p γ h x e → EdgeHolds tab e
  pub lanes2 : 2 ≤ n → (e : Edge) → lane_by sh (second sh.controls) p γ h x e → EdgeHolds tab e

-- A bound that is no less.
weaker : {e i j : ℕ} → AtMost e i → i ≤ j → AtMost e j
weaker h k = record { reached = h.reached; most = le_trans h.most k }

module _ (sh : Sizes) {n : ℕ} {ends : ℕ → TurnEnd} (tab : List ℕ) (two : n ≤ 2)
    (inside : Inside (free_of sh.controls) n ends) (zero-cell : cell tab rest ≡ 0) where
  -- The cell of a stretch with k turn ends inside, from control p in the j-th turn of the thread on.
  abbrev at : ℕ → ℕ → ℕ → ℕ → ℕ → ℕ
  at k j p γ d = cell_from sh.controls ends k j p γ d

  -- A lane is below 16.
  lane_low : (j : ℕ) → j < n → lane_of (ends j).leave (ends j).enter < 16
  lane_low j h = let i = inside j h in omega arith

  -- An edge of a row with one part.
  alone : {w K B N : ℕ} → ((e : Edge) → Row w K rest B N e → EdgeHolds tab e) → (x : ℕ) → x < N → {k b : ℕ} → K + x ≡ k → B + x ≡ b
      → cell tab b ≤ cap → AtMost (cell tab k) (w + cell tab b)
  alone {w} h x i {k} {b} p q v =
      let e = in_row h x i p q (omega arith) v in record { reached = e.reached; most = omega (arith, e.most) }

  -- To stay under the named top takes no step.
  pub top_at : (s : Symbol) (j p : ℕ) → p < free_of sh.controls → ((e : Edge) → TopEdges (Some s) sh.controls e → EdgeHolds tab e)
      → AtMost (cell tab (at 0 j p s.0 (8 + p))) 0
  top_at s j p i h =
      let e =
      alone (λ e r. h e (record { i = p; inside = i; at = r })) 0 (omega arith) (add-zero (plain p s.0 (8 + p))) (add-zero rest) (omega arith) in
      record { reached = e.reached; most = omega (arith, e.most) }

  -- A removal is within one turn.
  pub remove_at : {p γ h : ℕ} (j : ℕ) → RuleEdgesHold sh n ends tab p γ h Remove → AtMost (cell tab (at 0 j p γ (gone h))) 1
  remove_at j r =
      let e = alone r.plains 0 (omega arith) (add-zero (plain _ _ _)) (add-zero rest) (omega arith) in
      record { reached = e.reached; most = omega (arith, e.most) }

  -- A swap keeps the turn ends inside.
  pub swap_at : (k j : ℕ) {p γ h : ℕ} {a : Symbol} (d : ℕ) → j + k ≤ n → d < sh.dests → RuleEdgesHold sh n ends tab p γ h (Swap a)
      → cell tab (at k j h a.0 d) ≤ cap → AtMost (cell tab (at k j p γ d)) (1 + cell tab (at k j h a.0 d))
  swap_at zero j d e i r v = alone r.plains d i (omega arith) (omega arith) v
  swap_at (suc zero) j d e i r v =
      let l = lane_low j (omega arith) in
      alone (r.lanes1 (omega arith)) (d * 16 + lane_of (ends j).leave (ends j).enter) (omega arith) (omega arith) (omega arith) v
  swap_at (suc (suc zero)) j d e i r v =
      let l = lane_low (suc j) (omega arith) in
      alone (r.lanes2 (omega arith)) (d * 16 + lane_of (ends (suc j)).leave (ends (suc j)).enter) (omega arith) (omega arith) (omega arith) v
  swap_at (suc (suc (suc k))) j d e i r v = absurd (omega arith)

  -- A push that never comes down to its second symbol.
  pub above_at : (k j : ℕ) {p γ h : ℕ} {a b : Symbol} (d : ℕ) → j + k ≤ n → 4 ≤ d → d < sh.stays → RuleEdgesHold sh n ends tab p γ h (Push a b)
      → cell tab (at k j h a.0 d) ≤ cap → AtMost (cell tab (at k j p γ d)) (1 + cell tab (at k j h a.0 d))
  above_at zero j d e f i r v = alone (λ d x. r.plains d (inr x)) (d - 4) (omega arith) (omega arith) (omega arith) v
  above_at (suc zero) j d e f i r v =
      let l = lane_low j (omega arith) in
      alone (λ d x. r.lanes1 (omega arith) d (inr x)) ((d - 4) * 16 + lane_of (ends j).leave (ends j).enter) (omega arith) (omega arith) (omega arith) v
  above_at (suc (suc zero)) j d e f i r v =
      let l = lane_low (suc j) (omega arith) in
      alone (λ d x. r.lanes2 (omega arith) d (inr x)) ((d - 4) * 16 + lane_of (ends (suc j)).leave (ends (suc j)).enter) (omega arith) (omega arith) (omega arith) v
  above_at (suc (suc (suc k))) j d e f i r v = absurd (omega arith)

  -- A push whose first symbol goes with i turn ends inside, and whose second goes on with k.
  pub both_at : (i k j m : ℕ) {p γ h : ℕ} {a b : Symbol} (q d : ℕ) → j + i ≡ m → m + k ≤ n → q < sh.controls → d < sh.dests
      → RuleEdgesHold sh n ends tab p γ h (Push a b)
      → cell tab (at i j h a.0 (gone q)) ≤ cap → cell tab (at k m q b.0 d) ≤ cap
      → AtMost (cell tab (at (i + k) j p γ d)) (1 + cell tab (at i j h a.0 (gone q)) + cell tab (at k m q b.0 d))
  both_at zero zero j m q d e o p s r u v =
      in_row (λ x y. r.plains x (inl (record { i = q; inside = p; at = y }))) d s (omega arith) (omega arith) u v
  both_at zero (suc zero) j m q d e o p s r u v =
      let same : j ≡ m = omega arith in
      let l = lane_low m (omega arith) in
      rw same
      (in_row (λ x y. r.lanes1 (omega arith) x (inl (record { i = q; inside = p; at = inl y }))) (d * 16 + lane_of (ends m).leave (ends m).enter) (omega arith)
      (omega arith) (omega arith) u v)
  both_at zero (suc (suc zero)) j m q d e o p s r u v =
      let same : j ≡ m = omega arith in
      let l = lane_low (suc m) (omega arith) in
      rw same
      (in_row (λ x y. r.lanes2 (omega arith) x (inl (record { i = q; inside = p; at = inl y }))) (d * 16 + lane_of (ends (suc m)).leave (ends (suc m)).enter)
      (omega arith) (omega arith) (omega arith) u v)
  both_at (suc zero) zero j m q d e o p s r u v =
      let l = lane_low j (omega arith) in
      weaker
      (in_row (λ x y. r.lanes1 (omega arith) x (inl (record { i = q; inside = p; at = inr (record { i = d; inside = s; at = y }) }))) (lane_of (ends j).leave (ends j).enter) l
      refl refl v u)
      (omega arith)
  both_at (suc (suc zero)) zero j m q d e o p s r u v =
      let l = lane_low (suc j) (omega arith) in
      weaker
      (in_row (λ x y. r.lanes2 (omega arith) x (inl (record { i = q; inside = p; at = inr (record { i = d; inside = s; at = y }) })))
      (lane_of (ends (suc j)).leave (ends (suc j)).enter) l refl refl v u)
      (omega arith)
  both_at (suc zero) (suc zero) zero m q d e o p s r u v =
      let same : m ≡ 1 = omega arith in
      let l = lane_low 1 (omega arith) in
      rw same
      (in_row (λ x y. r.cross2 (omega arith) x (record { i = q; inside = p; at = y })) (d * 16 + lane_of (ends 1).leave (ends 1).enter) (omega arith) (omega arith)
      (omega arith) u (rw same at v))
  both_at (suc zero) (suc zero) (suc j) m q d e o p s r u v = absurd (omega arith)
  both_at zero (suc (suc (suc k))) j m q d e o p s r u v = absurd (omega arith)
  both_at (suc zero) (suc (suc k)) j m q d e o p s r u v = absurd (omega arith)
  both_at (suc (suc zero)) (suc k) j m q d e o p s r u v = absurd (omega arith)
  both_at (suc (suc (suc i))) k j m q d e o p s r u v = absurd (omega arith)

  -- A turn end before k others.
  change_at : (k j : ℕ) (γ d : ℕ) → j + suc k ≤ n → γ ≤ 16 → d < sh.dests
      → (1 ≤ n → (e : Edge) → FirstEnds sh e → EdgeHolds tab e)
      → (2 ≤ n → (e : Edge) → SecondEnds sh (ends 0).leave (ends 0).enter e → EdgeHolds tab e)
      → cell tab (at k (suc j) (ends j).enter γ d) ≤ cap
      → AtMost (cell tab (at (suc k) j (ends j).leave γ d)) (cell tab (at k (suc j) (ends j).enter γ d))
  change_at zero j γ d e p s f1 f2 v =
      let i = inside j (omega arith) in
      weaker
      (alone
      (λ x y. f1 (omega arith) x (record { i = (ends j).leave; inside = i.0; at = record { i = (ends j).enter; inside = i.1; at = record { i = γ; inside = omega arith; at = record { i = d; inside = s; at = y } } } }))
      0 (omega arith) (add-zero _) (add-zero _) v)
      (omega arith)
  change_at (suc zero) zero γ d e p s f1 f2 v =
      let l = lane_low 1 (omega arith) in
      weaker
      (alone (λ x y. f2 (omega arith) x (record { i = γ; inside = omega arith; at = y })) (d * 16 + lane_of (ends 1).leave (ends 1).enter) (omega arith) (omega arith) (omega arith) v)
      (omega arith)
  change_at (suc zero) (suc j) γ d e p s f1 f2 v = absurd (omega arith)
  change_at (suc (suc k)) j γ d e p s f1 f2 v = absurd (omega arith)

  -- The same between controls that are those of the turn end.
  pub changed : (k j : ℕ) (γ d p h : ℕ) → p ≡ (ends j).leave → h ≡ (ends j).enter → j + suc k ≤ n → γ ≤ 16 → d < sh.dests
      → (1 ≤ n → (e : Edge) → FirstEnds sh e → EdgeHolds tab e)
      → (2 ≤ n → (e : Edge) → SecondEnds sh (ends 0).leave (ends 0).enter e → EdgeHolds tab e)
      → cell tab (at k (suc j) h γ d) ≤ cap
      → AtMost (cell tab (at (suc k) j p γ d)) (cell tab (at k (suc j) h γ d))
  changed k j γ d p h l q e i s f1 f2 v = rw (l, q) (change_at k j γ d e i s f1 f2 (rw q at v))
