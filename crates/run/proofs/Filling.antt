-- The exits are filled in the order of their addresses: a cell more is written, or cells that no control has stay as they are.
use mathlib.Core.List.{List}
use mathlib.Core.Path.{◌≡◌, refl, sym, subst, ◌∙◌}
use Prim.Native.Nat.{ℕ, ◌+◌, ◌-◌, ◌*◌, ◌/◌, ◌%◌, ◌≤◌, ◌<◌}
use native.Mathlib.Decide.{dec_lt}
use native.Mathlib.Nat.{add-zero}
use native.Mathlib.Omega.{arith}
use lib.ListN.{get_or, set, replicate, length-set, length-replicate, get_or-replicate}
use lib.Seq.{get_or-set_same, get_or-set_other}
use Rattle.costs.specs.Lanes.{cell_at, LaneTo}
use Rattle.costs.proofs.Entries.{cell_at_lem}
use Rattle.summary.specs.Cells.{gone}
use Rattle.summary.specs.Edges.{cell}
use Rattle.summary.specs.Table.{unreached}
use Rattle.run.specs.Exits.{exits_size, row_of}
use Rattle.run.specs.Filled.{stretch_in, Holds, FilledTo, Extends, Filled, Fresh}
use Rattle.run.specs.Plan.{ends_in}
use Rattle.run.specs.declared.plan.Plan.{Plan}

-- Exits that are made of as many cells that are unreached.
pub fresh_made : Fresh (replicate exits_size unreached)
fresh_made = record { size = length-replicate exits_size unreached; all = λ i h. get_or-replicate exits_size i unreached 0 h }

-- What the table has for a stretch, by the lane of the last turn end inside.
pub stretch_at : (table : List ℕ) (plan : Plan) (j p γ k d l : ℕ) {v : ℕ} → j ≤ k → k ≤ 2
    → LaneTo (ends_in plan) k l → v ≡ cell table (cell_at plan.controls (k - j) p γ d l) → v ≡ stretch_in table plan j p γ k d
stretch_at table plan j p γ k d l h two e r =
    rw (cell_at_lem plan.controls (ends_in plan) (k - j) j k p γ d l (omega arith) (omega arith) e) r

-- A place has one turn and one control.
place_once : (j p k q : ℕ) → p < 8 → q < 8 → 8 * j + p ≡ 8 * k + q → (k ≡ j) × (q ≡ p)
place_once j p k q a b e = let t : k ≡ j = omega arith in (t, omega arith)

-- An address in a row is of that row.
row_once : (x γ x₁ γ₁ y : ℕ) → γ ≤ 16 → γ₁ ≤ 16 → y ≤ 24 → row_of x γ ≤ row_of x₁ γ₁ + y → row_of x₁ γ₁ + y < row_of x γ + 25
    → (x₁ ≡ x) × (γ₁ ≡ γ)
row_once x γ x₁ γ₁ y a b c h l = let t : x₁ ≡ x = omega arith in (t, omega arith)

-- An address in the rows of some places is of one of them.
place_between : (a b x γ y : ℕ) → γ ≤ 16 → y ≤ 24 → row_of a 0 ≤ row_of x γ + y → row_of x γ + y < row_of b 0 → (a ≤ x) × (x < b)
place_between a b x γ y u v h l = (omega arith, omega arith)

module _ {table : List ℕ} {plan : Plan} {dest : ℕ} where
  -- A cell that no stretch has is right as it is.
  blank_holds : (x γ y : ℕ)
      → ((j p k q : ℕ) → j ≤ plan.n → p < plan.controls → j ≤ k → k ≤ plan.n → q < plan.controls → x ≡ 8 * j + p → y ≡ 8 * k + q → ⊥)
      → ((j p : ℕ) → j ≤ plan.n → p < plan.controls → x ≡ 8 * j + p → y ≡ 24 → ⊥)
      → Holds table plan dest x γ y unreached
  blank_holds x γ y f g =
      record {
        gone = λ j p k q a b c d e u v. absurd (f j p k q a b c d e u v);
        early = λ j p k q a b c d e f. refl;
        stays = λ j p a b u v. absurd (g j p a b u v);
        none = λ h i. omega arith;
      }

  -- The cell of a symbol that is gone at a control.
  gone_holds : (j p γ k q v : ℕ) → plan.controls ≤ 8 → j ≤ k → k ≤ plan.n → k ≤ 2 → p < plan.controls → q < plan.controls
      → v ≡ stretch_in table plan j p γ k (gone q) → Holds table plan dest (8 * j + p) γ (8 * k + q) v
  gone_holds j p γ k q v most a b two c d e =
      record {
        gone = λ j₁ p₁ k₁ q₁ a₁ b₁ c₁ d₁ e₁ u w.
            let x = place_once j p j₁ p₁ (omega arith) (omega arith) u in
            let y = place_once k q k₁ q₁ (omega arith) (omega arith) w in
            rw (x.0, x.1, y.0, y.1) e;
        early = λ j₁ p₁ k₁ q₁ a₁ b₁ c₁ d₁ u w.
            let x = place_once j p j₁ p₁ (omega arith) (omega arith) u in
            let y = place_once k q k₁ q₁ (omega arith) (omega arith) w in
            absurd (omega (arith, x.0, y.0));
        stays = λ j₁ p₁ a₁ b₁ u w. absurd (omega arith);
        none = λ h i.
            let x : (8 * k + q) / 8 ≡ k = omega arith in
            let y : (8 * k + q) % 8 ≡ q = omega arith in
            absurd (i (rw y d) (rw x b));
      }

  -- The cell of the end.
  stays_holds : (j p γ v : ℕ) → plan.controls ≤ 8 → plan.n ≤ 2 → p < plan.controls
      → v ≡ stretch_in table plan j p γ plan.n dest → Holds table plan dest (8 * j + p) γ 24 v
  stays_holds j p γ v most two c e =
      record {
        gone = λ j₁ p₁ k₁ q₁ a₁ b₁ c₁ d₁ e₁ u w. absurd (omega arith);
        early = λ j₁ p₁ k₁ q₁ a₁ b₁ c₁ d₁ u w. absurd (omega arith);
        stays = λ j₁ p₁ a₁ b₁ u w. let x = place_once j p j₁ p₁ (omega arith) (omega arith) u in rw (x.0, x.1) e;
        none = λ h i. absurd (omega arith);
      }

  -- At the start no cell is filled.
  pub filled_start : {exits : List ℕ} → Fresh exits → FilledTo table plan dest 0 exits
  filled_start f = record { size = f.size; done = λ x γ y a b h. absurd (omega arith); rest = λ i l h. f.all i h }

  -- The same bound in other words.
  pub filled_at : {b e : ℕ} {exits : List ℕ} → b ≡ e → FilledTo table plan dest b exits → FilledTo table plan dest e exits
  filled_at {exits = exits} s r = subst (λ (b : ℕ). FilledTo table plan dest b exits) s r

  -- Cells that are right as they are.
  filled_skip : (b e : ℕ) {exits : List ℕ} → e ≤ exits_size
      → ((x γ y : ℕ) → γ ≤ 16 → y ≤ 24 → b ≤ row_of x γ + y → row_of x γ + y < e → Holds table plan dest x γ y unreached)
      → b ≤ e → FilledTo table plan dest b exits → FilledTo table plan dest e exits
  filled_skip b e {exits} most f h r =
      record {
        size = r.size;
        done = λ x γ y a c l.
            elim (dec_lt (row_of x γ + y) b) [
              | yes u ↦ r.done x γ y a c u
              | no u ↦
                  subst (Holds table plan dest x γ y) (sym (r.rest (row_of x γ + y) (omega arith) (omega arith)))
                  (f x γ y a c (omega arith) l)
            ];
        rest = λ i l k. r.rest i (omega arith) k;
      }

  -- Cells of a row that are so ..
  row_skip : (x γ a b : ℕ) {from to : ℕ} {exits : List ℕ} → from ≡ row_of x γ + a → to ≡ row_of x γ + b → a ≤ b → b ≤ 25 → x < 24 → γ ≤ 16
      → ((y : ℕ) → a ≤ y → y < b → Holds table plan dest x γ y unreached)
      → FilledTo table plan dest from exits → FilledTo table plan dest to exits
  row_skip x γ a b {from} {to} e f l m u v h =
      filled_skip from to (omega arith)
      (λ x₁ γ₁ y a₁ b₁ c₁ d₁.
      let s = row_once x γ x₁ γ₁ y v a₁ b₁ (omega arith) (omega arith) in
      let low : a ≤ y = omega (arith, s.0, s.1) in
      let high : y < b = omega (arith, s.0, s.1) in
      rw (s.0, s.1) (h y low high))
      (omega arith)

  -- .. and all cells of places that no control has.
  places_skip : (a b : ℕ) {exits : List ℕ} → a ≤ b → b ≤ 24
      → ((x j p : ℕ) → a ≤ x → x < b → j ≤ plan.n → p < plan.controls → x ≡ 8 * j + p → ⊥)
      → FilledTo table plan dest (row_of a 0) exits → FilledTo table plan dest (row_of b 0) exits
  places_skip a b l m h =
      filled_skip (row_of a 0) (row_of b 0) (omega arith)
      (λ x γ y a₁ b₁ c₁ d₁.
      let s = place_between a b x γ y a₁ b₁ c₁ d₁ in
      blank_holds x γ y (λ j p k q a₂ b₂ c₂ d₂ e₂ u w. h x j p s.0 s.1 a₂ b₂ u) (λ j p a₂ b₂ u w. h x j p s.0 s.1 a₂ b₂ u))
      (omega arith)

  -- One cell more.
  filled_put : {at v : ℕ} (x γ y : ℕ) {exits : List ℕ} → at ≡ row_of x γ + y → x < 24 → γ ≤ 16 → y ≤ 24 → Holds table plan dest x γ y v
      → FilledTo table plan dest at exits → FilledTo table plan dest (at + 1) (set exits at v)
  filled_put {at} {v} x γ y {exits} e a b c h r =
      record {
        size = length-set exits at v ∙ r.size;
        done = λ x₁ γ₁ y₁ b₁ c₁ l.
            elim (dec_lt (row_of x₁ γ₁ + y₁) at) [
              | yes u ↦
                  subst (Holds table plan dest x₁ γ₁ y₁) (sym (get_or-set_other exits at (row_of x₁ γ₁ + y₁) v 0 (λ i. omega arith)))
                  (r.done x₁ γ₁ y₁ b₁ c₁ u)
              | no u ↦
                  let s : row_of x₁ γ₁ + y₁ ≡ at = omega arith in
                  let sx : x₁ ≡ x = omega arith in
                  let sγ : γ₁ ≡ γ = omega arith in
                  let sy : y₁ ≡ y = omega arith in
                  let w : get_or (set exits at v) (row_of x₁ γ₁ + y₁) 0 ≡ v = rw s (get_or-set_same exits at v 0 (rw r.size (omega arith))) in
                  subst (Holds table plan dest x₁ γ₁ y₁) (sym w) (rw (sx, sγ, sy) h)
            ];
        rest = λ i l k. get_or-set_other exits at i v 0 (λ j. omega arith) ∙ r.rest i (omega arith) k;
      }

-- Cells where the symbol is gone in turn k: none yet ..
pub gone_start : (table : List ℕ) (plan : Plan) (at : ℕ) (exits : List ℕ) → Extends table plan at (at + 0) exits exits
gone_start table plan at exits dest r = rw add-zero r

module _ {table : List ℕ} {plan : Plan} (j p γ : ℕ) (own : p < plan.controls) (symbol : γ ≤ 16) where
  module _ (k : ℕ) (later : j ≤ k) (last : k ≤ plan.n) where
    -- .. one more ..
    pub gone_next : (q : ℕ) {v d : ℕ} {old new : List ℕ} → q < plan.controls → d ≡ gone q → v ≡ stretch_in table plan j p γ k d
        → Extends table plan (row_of (8 * j + p) γ + 8 * k) (row_of (8 * j + p) γ + 8 * k + q) old new
        → Extends table plan (row_of (8 * j + p) γ + 8 * k) (row_of (8 * j + p) γ + 8 * k + (q + 1)) old
        (set new (row_of (8 * j + p) γ + 8 * k + q) v)
    gone_next q {v} low is r ext dest f =
        let at : ℕ = row_of (8 * j + p) γ + 8 * k in
        let s : at + (q + 1) ≡ at + q + 1 = omega arith in
        let most = plan.in_range.most in
        let two = plan.in_range.two in
        rw s (filled_put (8 * j + p) γ (8 * k + q) (omega arith) (omega arith) symbol (omega arith)
        (gone_holds j p γ k q v most later last (omega arith) own low (rw is at r)) (ext dest f))

    -- .. and all of them: those after the last control stay as they are.
    pub gone_end : {q : ℕ} {old new : List ℕ} → plan.controls ≤ q → q ≤ plan.controls
        → Extends table plan (row_of (8 * j + p) γ + 8 * k) (row_of (8 * j + p) γ + 8 * k + q) old new
        → Extends table plan (row_of (8 * j + p) γ + 8 * k) (row_of (8 * j + p) γ + 8 * (k + 1)) old new
    gone_end {q} low high ext dest f =
        let c = plan.in_range.most in
        let two = plan.in_range.two in
        row_skip (8 * j + p) γ (8 * k + q) (8 * (k + 1)) (omega arith) refl (omega arith) (omega arith) (omega arith) symbol
        (λ y a b. blank_holds (8 * j + p) γ y (λ j₁ p₁ k₁ q₁ a₁ b₁ c₁ d₁ e₁ u w. omega arith) (λ j₁ p₁ a₁ b₁ u w. omega arith))
        (ext dest f)

  module _ {dest : ℕ} {exits : List ℕ} (inside : j ≤ plan.n) where
    -- A row starts where the symbol is gone in the same turn: never in an earlier one.
    pub row_start : FilledTo table plan dest (row_of (8 * j + p) γ) exits → FilledTo table plan dest (row_of (8 * j + p) γ + 8 * j) exits
    row_start =
        let c = plan.in_range.most in
        let two = plan.in_range.two in
        row_skip (8 * j + p) γ 0 (8 * j) (omega arith) refl (omega arith) (omega arith) (omega arith) symbol
        (λ y a b. blank_holds (8 * j + p) γ y (λ j₁ p₁ k₁ q₁ a₁ b₁ c₁ d₁ e₁ u w. omega arith) (λ j₁ p₁ a₁ b₁ u w. omega arith))

    -- It ends with the cell of the end.
    pub row_end : (k : ℕ) {v : ℕ} → k ≡ plan.n + 1 → v ≡ stretch_in table plan j p γ plan.n dest
        → FilledTo table plan dest (row_of (8 * j + p) γ + 8 * k) exits
        → FilledTo table plan dest (row_of (8 * j + p) (γ + 1)) (set exits (row_of (8 * j + p) γ + 24) v)
    row_end k {v = v} e r f =
        let c = plan.in_range.most in
        let two = plan.in_range.two in
        let s : row_of (8 * j + p) (γ + 1) ≡ row_of (8 * j + p) γ + 24 + 1 = omega arith in
        let g : FilledTo table plan dest (row_of (8 * j + p) γ + 24) exits =
        row_skip (8 * j + p) γ (8 * k) 24 refl refl (omega arith) (omega arith) (omega arith) symbol
        (λ y a b. blank_holds (8 * j + p) γ y (λ j₁ p₁ k₁ q₁ a₁ b₁ c₁ d₁ e₁ u w. omega arith) (λ j₁ p₁ a₁ b₁ u w. omega arith)) f in
        rw s (filled_put (8 * j + p) γ 24 refl (omega arith) symbol (omega arith) (stays_holds j p γ v c two own r) g)

module _ {table : List ℕ} {plan : Plan} {dest : ℕ} {exits : List ℕ} where
  -- A turn ends after its last control ..
  pub turn_end : (j p : ℕ) → j ≤ plan.n → p ≡ plan.controls → FilledTo table plan dest (row_of (8 * j + p) 0) exits
      → FilledTo table plan dest (row_of (8 * (j + 1)) 0) exits
  turn_end j p h e =
      let c = plan.in_range.most in
      let two = plan.in_range.two in
      places_skip (8 * j + p) (8 * (j + 1)) (omega arith) (omega arith) (λ x j₁ p₁ a b u v w. omega arith)

  -- .. and after the last turn all exits are filled.
  pub turns_end : (j : ℕ) → j ≡ plan.n + 1 → FilledTo table plan dest (row_of (8 * j) 0) exits → Filled table plan dest exits
  turns_end j e f =
      let c = plan.in_range.most in
      let two = plan.in_range.two in
      filled_at (omega arith) (places_skip (8 * j) 24 (omega arith) (omega arith) (λ x j₁ p₁ a b u v w. omega arith) f)
