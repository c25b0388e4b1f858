-- A table that is closed under the moves is nowhere above what a stretch needs: by recursion on the stretch, each
-- constructor being one field of `Closed`. And exact entries are closed.
use mathlib.Core.List.{List, [], ◌∷◌, ◌++◌, append_assoc}
use Prim.Native.Nat.{ℕ, ◌+◌, ◌≤◌}
use native.Mathlib.Omega.{arith}
use lib.ListN.{length, length-append}
use Rattle.model.specs.declared.Right.{Right}
use Rattle.model.specs.declared.Right.TheVariants.{Remove, Swap, Push}
use Rattle.model.specs.declared.Symbol.{Symbol}
use Rattle.model.specs.Tops.{Top}
use Rattle.summary.specs.Stretch.{End, pop, stay, end_of, OnTop, Asks, Stretch}
use Rattle.summary.specs.Table.{cap, Exact}

-- The new symbols of a right side are symbols of the table.
abbrev pub Symbols : (ℕ → Type 0) → Right → Type 0
Symbols Sym Remove = Unit {0}
Symbols Sym (Swap a) = Sym a.0
Symbols Sym (Push a b) = Sym a.0 × Sym b.0

-- An entry that is reached, and is no more than so many steps.
pub record AtMost (entry steps : ℕ) : Type 0 where
  pub reached : entry ≤ cap
  pub most : entry ≤ steps

module _ {C S : Type 0} (Move : C → ℕ → S → Right → C → Type 0) (Switch : C → C → Type 0)
    (Ctl : C → Type 0) (Sym : ℕ → Type 0) where
  -- Controls and symbols of the table lead to such.
  pub record Ranged : Type 0 where
    pub moves : {c c₁ : C} {γ : ℕ} {s : S} {x : Right} → Ctl c → Move c γ s x c₁ → Ctl c₁ × Symbols Sym x
    pub switches : {c c₁ : C} → Ctl c → Switch c c₁ → Ctl c₁

module _ {C S : Type 0} (Move : C → ℕ → S → Right → C → Type 0) (Switch : C → C → Type 0)
    (Ctl : C → Type 0) (Sym : ℕ → Type 0) (Ask : Top → C → Type 0) where
  -- A destination of the table.
  abbrev pub Dest : End C → Type 0
  Dest d = Ctl (end_of d) × Asks Ask d

  -- The entries are closed under each way that a stretch can go on.
  pub record Closed (T : C → ℕ → End C → ℕ) : Type 0 where
    pub here : (top : Top) (c : C) (γ : ℕ) → Ctl c → Sym γ → Ask top c → OnTop top γ → AtMost (T c γ (stay top c)) 0
    pub remove : {c c₁ : C} {γ : ℕ} {s : S} → Ctl c → Sym γ → Move c γ s Remove c₁ → AtMost (T c γ (pop c₁)) 1
    pub swap : {c c₁ : C} {γ : ℕ} {s : S} {a : Symbol} (d : End C) → Ctl c → Sym γ → Dest d
        → Move c γ s (Swap a) c₁ → T c₁ a.0 d ≤ cap → AtMost (T c γ d) (1 + T c₁ a.0 d)
    pub both : {c c₁ : C} {γ : ℕ} {s : S} {a b : Symbol} (q : C) (d : End C) → Ctl c → Sym γ → Ctl q → Dest d
        → Move c γ s (Push a b) c₁ → T c₁ a.0 (pop q) ≤ cap → T q b.0 d ≤ cap
        → AtMost (T c γ d) (1 + T c₁ a.0 (pop q) + T q b.0 d)
    pub above : {c c₁ : C} {γ : ℕ} {s : S} {a b : Symbol} (top : Top) (q : C) → Ctl c → Sym γ → Ctl q → Ask top q
        → Move c γ s (Push a b) c₁ → T c₁ a.0 (stay top q) ≤ cap → AtMost (T c γ (stay top q)) (1 + T c₁ a.0 (stay top q))
    pub change : {c c₁ : C} (γ : ℕ) (d : End C) → Ctl c → Sym γ → Dest d
        → Switch c c₁ → T c₁ γ d ≤ cap → AtMost (T c γ d) (T c₁ γ d)

  -- A stretch ends at a control of the table, and its entry is reached by no more steps than it has.
  pub record Bounded (T : C → ℕ → End C → ℕ) (c : C) (γ : ℕ) (d : End C) (ss rest : List S) : Type 0 where
    pub inside : Ctl (end_of d)
    pub reached : T c γ d ≤ cap
    pub most : T c γ d + length rest ≤ length ss

  pub bounded : {T : C → ℕ → End C → ℕ} → Ranged Move Switch Ctl Sym → Closed T → {c : C} {γ : ℕ} {d : End C} {ss rest : List S}
      → Ctl c → Sym γ → Asks Ask d → Stretch Move Switch c γ d ss rest → Bounded T c γ d ss rest
  bounded R K {c} {γ} p q k (Stretch.here {top = top} o) =
      let e = K.here top c γ p q k o in
      record { inside = p; reached = e.reached; most = omega (arith, e.most) }
  bounded R K p q k (Stretch.remove m) =
      let e = K.remove p q m in record { inside = (R.moves p m).0; reached = e.reached; most = omega (arith, e.most) }
  bounded R K {d = d} p q k (Stretch.swap m r) =
      let i = R.moves p m in
      let h = bounded R K i.0 i.1 k r in
      let e = K.swap d p q (h.inside, k) m h.reached in
      record { inside = h.inside; reached = e.reached; most = omega (arith, e.most, h.most) }
  bounded R K {d = d} p q k (Stretch.both {q = u} m r t) =
      let i = R.moves p m in
      let h = bounded R K i.0 i.1.0 tt r in
      let j = bounded R K h.inside i.1.1 k t in
      let e = K.both u d p q h.inside (j.inside, k) m h.reached j.reached in
      record { inside = j.inside; reached = e.reached; most = omega (arith, e.most, h.most, j.most) }
  bounded R K p q k (Stretch.above {top = top} {q = u} m r) =
      let i = R.moves p m in
      let h = bounded R K i.0 i.1.0 k r in
      let e = K.above top u p q h.inside k m h.reached in
      record { inside = h.inside; reached = e.reached; most = omega (arith, e.most, h.most) }
  bounded R K {γ = γ} {d = d} p q k (Stretch.change s r) =
      let h = bounded R K (R.switches p s) q k r in
      let e = K.change γ d p q (h.inside, k) s h.reached in
      record { inside = h.inside; reached = e.reached; most = omega (arith, e.most, h.most) }

module _ {C S : Type 0} (Move : C → ℕ → S → Right → C → Type 0) (Switch : C → C → Type 0) (T : C → ℕ → End C → ℕ) where
  -- Exact entries are closed: what is made of stretches that exist is one that exists, and its entry is no more.
  pub exact_closed : {Ctl : C → Type 0} {Sym : ℕ → Type 0} {Ask : Top → C → Type 0} → Ranged Move Switch Ctl Sym
      → ((c : C) (γ : ℕ) (d : End C) → Ctl c → Sym γ → Dest Move Switch Ctl Sym Ask d → Exact Move Switch c γ d (T c γ d))
      → Closed Move Switch Ctl Sym Ask T
  exact_closed R E =
      record {
        here = λ top c γ p q k o.
            let l = (E c γ (stay top c) p q (p, k)).least {ss = []} (λ rest. Stretch.here o) in
            record { reached = l.0; most = l.1 };
        remove = λ {c} {c₁} {γ} {s} p q m.
            let l = (E c γ (pop c₁) p q ((R.moves p m).0, tt)).least {ss = s ∷ []} (λ rest. Stretch.remove m) in
            record { reached = l.0; most = l.1 };
        swap = λ {c} {c₁} {γ} {s} {a} d p q o m h.
            let i = R.moves p m in
            let u = (E c₁ a.0 d i.0 i.1 o).some h in
            let l = (E c γ d p q o).least {ss = s ∷ u.0} (λ rest. Stretch.swap m (u.1 rest)) in
            record { reached = l.0; most = omega (arith, l.0, l.1, u.2) };
        both = λ {c} {c₁} {γ} {s} {a} {b} r d p q y o m h k.
            let i = R.moves p m in
            let u = (E c₁ a.0 (pop r) i.0 i.1.0 (y, tt)).some h in
            let v = (E r b.0 d y i.1.1 o).some k in
            let l =
            (E c γ d p q o).least {ss = s ∷ (u.0 ++ v.0)}
            (λ rest. rw append_assoc (Stretch.both m (u.1 (v.0 ++ rest)) (v.1 rest))) in
            record { reached = l.0; most = omega (arith, l.0, l.1, u.2, v.2, length-append u.0 v.0) };
        above = λ {c} {c₁} {γ} {s} {a} {b} top r p q y k m h.
            let i = R.moves p m in
            let u = (E c₁ a.0 (stay top r) i.0 i.1.0 (y, k)).some h in
            let l = (E c γ (stay top r) p q (y, k)).least {ss = s ∷ u.0} (λ rest. Stretch.above m (u.1 rest)) in
            record { reached = l.0; most = omega (arith, l.0, l.1, u.2) };
        change = λ {c} {c₁} γ d p q o s h.
            let u = (E c₁ γ d (R.switches p s) q o).some h in
            let l = (E c γ d p q o).least {ss = u.0} (λ rest. Stretch.change s (u.1 rest)) in
            record { reached = l.0; most = omega (arith, l.0, l.1, u.2) };
      }
