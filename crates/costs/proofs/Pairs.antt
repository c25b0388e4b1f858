-- The least steps of a thread along a line, by its stretches: over the floor a run with one symbol is a stretch of that
-- symbol that stays, or one that pops it and then a stretch of the floor that stays; each candidate of the minimum is one
-- of these.
use mathlib.Core.Bool.{false}
use mathlib.Core.List.{List, [], ◌∷◌, ◌++◌, append-nil}
use mathlib.Core.Logic.{◌⊎◌, inl, inr}
use mathlib.Core.Path.{◌≡◌, refl, sym, subst}
use Prim.Native.Nat.{ℕ, zero, suc, ◌+◌, ◌≤◌, ◌<◌, min}
use native.Mathlib.Decide.{dec_lt}
use native.Mathlib.Nat.{le_refl}
use native.Mathlib.Omega.{arith}
use lib.Dec.{T}
use lib.ListN.{length, length-append}
use Rattle.model.specs.declared.Right.{Right}
use Rattle.model.specs.declared.Thread.{Thread}
use Rattle.model.specs.Tops.{Top}
use Rattle.std.specs.Prelude.{None, Some}
use Rattle.model.specs.Walk.{has_top, Step}
use Rattle.model.proofs.Inside.{applies_iff}
use Rattle.model.proofs.Tests.{equal}
use Rattle.model.specs.Fits.{TopFits, ThreadFits}
use Rattle.summary.specs.Cells.{controls_of, free_of}
use Rattle.summary.specs.Control.{Control, TurnEnd, Moves, Switches, entry, InTable, Stays, Inside, Summed}
use Rattle.summary.specs.Edges.{best_of}
use Rattle.summary.specs.Stretch.{End, pop, stay, OnTop, Asks, Path, Stretch}
use Rattle.summary.specs.Table.{cap, capped, Least, Exact}
use Rattle.summary.proofs.Floors.{floored, unfloored}
use Rattle.summary.proofs.Numbers.{control_eq}
use Rattle.summary.proofs.Overs.{Over, within, gone, overs, pops, stays}
use Rattle.summary.proofs.Ranging.{Sym, ranged}
use Rattle.summary.proofs.Relaxing.{better}
use Rattle.summary.proofs.Tables.{Bounded, bounded, exact_closed}
use Rattle.costs.specs.Cost.{control, through, over_states, over_turns, pair_cost}

-- A count that is reached and at most m is so after a candidate more, and after one that is.
lower : (x y old m : ℕ) → (old ≤ cap) × (old ≤ m) → (best_of 0 x y old ≤ cap) × (best_of 0 x y old ≤ m)
lower x y old m h = let b = better 0 x y old in (omega (arith, b.low), omega (arith, b.low))

hits : (x y old l m : ℕ) → (x ≤ cap) × (x + l ≤ m) → (y ≤ cap) × (y + 0 ≤ l)
    → (best_of 0 x y old ≤ cap) × (best_of 0 x y old ≤ m)
hits x y old l m h k = let b = (better 0 x y old).most h.0 k.0 in (b.0, omega (arith, b.1))

-- A count that some run with one symbol has, if it is reached.
abbrev Made : {C S : Type 0} (Move : C → ℕ → S → Right → C → Type 0) (Switch : C → C → Type 0) → Top → C → ℕ → C → ℕ → Type 0
Made {S = S} Move Switch top c γ d v = v ≤ cap → (ss : List S) × Path Move Switch top c (γ ∷ []) ss d × (capped (length ss) ≡ v)

-- The floor is no named top.
pub floor_low : (top : Top) → TopFits top → OnTop top 16 → T (has_top top [])
floor_low None fits o = tt
floor_low (Some s) fits o = absurd (omega (arith, (equal 16 s.0).0 o))

module _ {C S : Type 0} {Move : C → ℕ → S → Right → C → Type 0} {Switch : C → C → Type 0} (φ : ℕ)
    (idle : (c d : C) (s : S) (x : Right) → Move c φ s x d → ⊥) where
  -- The floor is never popped.
  pub never : {c q : C} {ss rest : List S} → Stretch Move Switch c φ (pop q) ss rest → ⊥
  never (Stretch.remove m) = idle _ _ _ _ m
  never (Stretch.swap m r) = idle _ _ _ _ m
  never (Stretch.both m r q) = idle _ _ _ _ m
  never (Stretch.change s r) = never r

  -- The two ways as runs, by exact entries.
  alone : {top : Top} {c d : C} {γ x : ℕ} → Exact Move Switch c γ (stay top d) x → Made Move Switch top c γ d x
  alone {top} f h = let u = f.some h in (u.0, rw append-nil at (stays Move Switch top {w = []} (u.1 [])), u.2)

  joined : {top : Top} {c u d : C} {γ x y old : ℕ} → (OnTop top φ → T (has_top top []))
      → Exact Move Switch c γ (pop u) x → Exact Move Switch u φ (stay top d) y
      → Made Move Switch top c γ d old → Made Move Switch top c γ d (best_of 0 x y old)
  joined {top} {c} {u} {d} {γ} {x} {y} {old} low f g r = which (better 0 x y old).which
    where
      which : (best_of 0 x y old ≡ old) ⊎ ((x ≤ cap) × (y ≤ cap) × (best_of 0 x y old ≡ min (0 + x + y) cap))
          → Made Move Switch top c γ d (best_of 0 x y old)
      which (inl e) h = rw e (r (rw e at h))
      which (inr e) h =
          let v = f.some e.0 in
          let w = g.some e.1 in
          let run : Path Move Switch top c (γ ∷ φ ∷ []) (v.0 ++ (w.0 ++ [])) d =
          pops Move Switch top (v.1 (w.0 ++ [])) (stays Move Switch top (w.1 [])) in (
            v.0 ++ (w.0 ++ []),
            unfloored Move Switch top φ idle low run (γ ∷ []) refl,
            simp (length-append, append-nil) (omega (arith, v.2, w.2, e.2)),
          )

-- A state is a control of a table that has more of them.
state_inside : {N n j q : ℕ} → j ≤ n → q < free_of N → InTable N n (control j q)
state_inside i l = record { passed = i; shared = omega arith; number = omega arith }

-- The floor stays only from a control that no held step has led to: it makes no step, and a turn does not end after one.
floor_free : {t : Thread} {turn_of : ℕ → ℕ} {ends : ℕ → TurnEnd} {n : ℕ} {top : Top} {c d : Control} {ss rest : List Step}
    → ((c d : Control) (s : Step) (x : Right) → Moves t turn_of c 16 s x d → ⊥) → d.held ≡ false
    → Stretch (Moves t turn_of) (Switches ends n) c 16 (stay top d) ss rest → c.held ≡ false
floor_free idle h (Stretch.here o) = h
floor_free idle h (Stretch.swap m r) = absurd (idle _ _ _ _ m)
floor_free idle h (Stretch.both m r q) = absurd (idle _ _ _ _ m)
floor_free idle h (Stretch.above m r) = absurd (idle _ _ _ _ m)
floor_free idle h (Stretch.change s r) = s.free

module _ (N : ℕ) (ends : ℕ → TurnEnd) (tab : List ℕ) (c : Control) (γ : ℕ) (top : Top) (d : Control) (n : ℕ) (P : ℕ → Type 0)
    (step : (j p old : ℕ) → j ≤ n → p < free_of N → P old → P (through N ends tab c γ top d (control j p) old)) where
  -- What each candidate keeps is kept by all of them.
  states_made : (j k old : ℕ) → j ≤ n → k ≤ free_of N → P old → P (over_states N ends tab c γ top d j k old)
  unfolding over_states
  states_made j zero old i b r = r
  states_made j (suc k) old i b r =
      step j k (over_states N ends tab c γ top d j k old) i b (states_made j k old i (omega arith) r)

  pub turns_made : P (entry N ends tab c γ (stay top d)) → (k : ℕ) → k ≤ suc n → P (over_turns N ends tab c γ top d k)
  unfolding over_turns
  turns_made r zero b = r
  turns_made r (suc k) b = states_made k (free_of N) (over_turns N ends tab c γ top d k) (omega arith) (le_refl (free_of N)) (turns_made r k (omega arith))

  -- What one candidate makes, and each keeps, is made by all of them.
  module _ (j p : ℕ) (i : j ≤ n) (l : p < free_of N) (hit : (old : ℕ) → P (through N ends tab c γ top d (control j p) old)) where
    states_hit : (k old : ℕ) → p < k → k ≤ free_of N → P (over_states N ends tab c γ top d j k old)
    unfolding over_states
    states_hit zero old h b = absurd (omega arith)
    states_hit (suc k) old h b =
        elim (dec_lt p k) [
          | yes e ↦ step j k (over_states N ends tab c γ top d j k old) i b (states_hit k old e (omega arith))
          | no e ↦
              let same : p ≡ k = omega arith in
              subst (λ u. P (through N ends tab c γ top d (control j u) (over_states N ends tab c γ top d j k old))) same
              (hit (over_states N ends tab c γ top d j k old))
        ]

    turns_hit : (k : ℕ) → j < k → k ≤ suc n → P (over_turns N ends tab c γ top d k)
    unfolding over_turns
    turns_hit zero h b = absurd (omega arith)
    turns_hit (suc k) h b =
        elim (dec_lt j k) [
          | yes e ↦ states_made k (free_of N) (over_turns N ends tab c γ top d k) (omega arith) (le_refl (free_of N)) (turns_hit k e (omega arith))
          | no e ↦
              let same : j ≡ k = omega arith in
              subst (λ u. P (over_states N ends tab c γ top d u (free_of N) (over_turns N ends tab c γ top d u))) same
              (states_hit (free_of N) (over_turns N ends tab c γ top d j) l (le_refl (free_of N)))
        ]

module _ {t : Thread} {table : Top} {G n : ℕ} {ends : ℕ → TurnEnd} {tab : List ℕ} (four : G ≤ 4) (fits : ThreadFits G t)
    (inside : Inside G n ends) (sums : Summed t table G n ends tab) (turn_of : ℕ → ℕ) where
  -- No rule takes the floor.
  pub idle : (c d : Control) (s : Step) (x : Right) → Moves t turn_of c 16 s x d → ⊥
  idle c d s x m =
      let a = (applies_iff t s.rule c.shared 16).0 m.rule in
      let r = fits.rules s.rule a.listed in
      omega (arith, a.symbol, r.top)

  -- The controls of the table.
  abbrev N : ℕ
  N = controls_of t G

  -- A stretch from a control of the table ends at one, and its entry is no more than its steps.
  bound : {c : Control} {γ : ℕ} {e : End Control} {ss rest : List Step} → InTable N n c → γ ≤ 16 → Asks (Stays table) e
      → Stretch (Moves t turn_of) (Switches ends n) c γ e ss rest
      → Bounded (Moves t turn_of) (Switches ends n) (InTable N n) Sym (Stays table) (entry N ends tab) c γ e ss rest
  bound p q k r =
      let within = ranged turn_of four fits inside in
      bounded _ _ _ _ _ within (exact_closed _ _ (entry N ends tab) within (sums.exact turn_of)) p q k r

  -- The cost read off the table is the capped least number of steps.
  pub pair_cost_lem : (c : Control) (γ : ℕ) (top : Top) (d : Control) → Stays table top d → TopFits top → InTable N n c → γ ≤ 15
      → InTable N n d
      → Least (λ ss. Path (Moves t turn_of) (Switches ends n) top c (γ ∷ []) ss d) (pair_cost ends tab N n c γ top d)
  pair_cost_lem c γ top d k named p low q =
      let under = floor_low top named in
      record {
        some = turns_made N ends tab c γ top d n (Made (Moves t turn_of) (Switches ends n) top c γ d)
            (λ j s old i l. let mid = state_inside {N = N} {n = n} {j = j} {q = s} i l in
            joined 16 idle under (sums.exact turn_of c γ (pop (control j s)) p (omega arith) (mid, tt))
            (sums.exact turn_of (control j s) 16 (stay top d) mid (omega arith) (q, k)))
            (alone 16 idle (sums.exact turn_of c γ (stay top d) p (omega arith) (q, k))) (suc n) (le_refl (suc n));
        least = λ {ss} r. least (overs _ _ top (floored _ _ top 16 idle under r));
      }
    where
      lowers : (ss : List Step) (j s old : ℕ) → j ≤ n → s < free_of N → (old ≤ cap) × (old ≤ length ss)
          → (through N ends tab c γ top d (control j s) old ≤ cap) × (through N ends tab c γ top d (control j s) old ≤ length ss)
      lowers ss j s old i l = lower _ _ old (length ss)

      least : {ss : List Step} → Over (Moves t turn_of) (Switches ends n) top c (γ ∷ 16 ∷ []) ss d
          → (pair_cost ends tab N n c γ top d ≤ cap) × (pair_cost ends tab N n c γ top d ≤ length ss)
      least {ss} (within r) =
          let e = bound p (omega arith) k r in
          turns_made N ends tab c γ top d n (λ v. (v ≤ cap) × (v ≤ length ss)) (lowers ss) (e.reached, omega (arith, e.most)) (suc n)
          (le_refl (suc n))
      least {ss} (gone {q = u} {mid = mid} r (within f)) =
          let x = bound p (omega arith) tt r in
          let y = bound x.inside (omega arith) k f in
          let i = x.inside in
          let free = floor_free idle k.free f in
          let same = control_eq (control u.passed u.shared) u refl (rw free refl) refl in
          let low : u.shared < free_of N = omega (arith, i.shared, rw free at i.number) in
          turns_hit N ends tab c γ top d n (λ v. (v ≤ cap) × (v ≤ length ss)) (lowers ss) u.passed u.shared i.passed low
          (λ old. subst (λ v. (through N ends tab c γ top d v old ≤ cap) × (through N ends tab c γ top d v old ≤ length ss))
          (sym same) (hits _ _ old (length mid) (length ss) (x.reached, x.most) (y.reached, y.most)))
          (suc n) (omega (arith, i.passed)) (le_refl (suc n))
      least (gone r (gone f o)) = absurd (never 16 idle f)
