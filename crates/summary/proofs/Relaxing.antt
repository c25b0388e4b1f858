-- Relaxations compose: counts only fall, so an edge that was closed while its parts were as at the start stays closed.
use mathlib.Core.List.{List, [], ◌∷◌}
use mathlib.Core.Logic.{◌⊎◌, inl, inr, ⊎_elim}
use mathlib.Core.Path.{◌≡◌, refl, sym, subst, ◌∙◌}
use Prim.Native.Nat.{ℕ, zero, suc, ◌+◌, ◌≤◌, ◌<◌, min}
use native.Mathlib.Nat.{le_refl, le_trans}
use native.Mathlib.Omega.{arith}
use native.Mathlib.Decide.{ℕ_discrete, dec_le, dec_lt}
use borrow.Author.Tests.{le-leb, lt-leb, le-ltb, lt-ltb}
use lib.ListN.{length, get_or, set, length-set}
use lib.Seq.{get_or-set_same, get_or-set_other, set-get_or}
use Rattle.summary.specs.Edges.{Edge, cell, best_of, EdgeHolds, From, kept, by, sum, less, Relaxed, Below, NoEdge}
use Rattle.summary.specs.Table.{cap}

-- A table in which the edges hold is not changed.
pub settled : {P : Edge → Type 0} (t : List ℕ) → ((e : Edge) → P e → EdgeHolds t e) → Relaxed P t t 0
settled t h =
    record {
      size = refl;
      falls = omega arith;
      low = λ k. le_refl (cell t k);
      same = λ e. refl;
      derived = kept;
      closed = λ e w p q. h e w;
    }

-- No edge changes nothing.
pub unchanged : (t : List ℕ) → Relaxed NoEdge t t 0
unchanged t = settled t (λ e i. absurd i)

-- More edges derive no less.
pub wider : {P Q : Edge → Type 0} {t : ℕ → ℕ} → ((e : Edge) → P e → Q e) → {k x : ℕ} → From P t k x → From Q t k x
wider h (kept k) = kept k
wider h (by e v p q i j) = by e (h e v) (wider h p) (wider h q) i j

-- What follows from what followed.
pub onward : {P : Edge → Type 0} {t u : ℕ → ℕ} → ((k : ℕ) → From P t k (u k)) → {k x : ℕ} → From P u k x → From P t k x
onward h (kept k) = h k
onward h (by e w p q i j) = by e w (onward h p) (onward h q) i j

-- An edge that holds still holds where its cell has fallen and its parts have not.
pub still : {t u : List ℕ} {e : Edge} → ((k : ℕ) → cell u k ≤ cell t k) → cell u e.a ≡ cell t e.a
    → cell u e.b ≡ cell t e.b → EdgeHolds t e → EdgeHolds u e
still {t} {u} {e} low p q h =
    record {
      reached = λ x y. le_trans (low e.to) (h.reached (rw p at x) (rw q at y));
      most = λ x y. rw (p, q) (le_trans (low e.to) (h.most (rw p at x) (rw q at y)));
    }

-- One relaxation after another.
pub then : {P Q : Edge → Type 0} {t u v : List ℕ} {i j : ℕ} → Relaxed P t u i → Relaxed Q u v j
    → Relaxed (λ e. P e ⊎ Q e) t v (i + j)
then {P} {Q} {t} {u} {v} {i} {j} f g =
    record {
      size = g.size ∙ f.size;
      falls = omega (arith, f.falls, g.falls);
      low = λ k. le_trans (g.low k) (f.low k);
      same = λ e. g.same (omega arith) ∙ f.same (omega arith);
      derived = λ k. onward (λ i. wider (λ e. inl) (f.derived i)) (wider (λ e. inr) (g.derived k));
      closed = closed;
    }
  where
    closed : (e : Edge) → P e ⊎ Q e → cell v e.a ≡ cell t e.a → cell v e.b ≡ cell t e.b → EdgeHolds v e
    closed e (inl x) p q =
        let a : cell u e.a ≡ cell t e.a = omega (arith, f.low e.a, g.low e.a) in
        let b : cell u e.b ≡ cell t e.b = omega (arith, f.low e.b, g.low e.b) in
        still g.low (p ∙ sym a) (q ∙ sym b) (f.closed e x a b)
    closed e (inr y) p q =
        let a : cell v e.a ≡ cell u e.a = omega (arith, f.low e.a, g.low e.a) in
        let b : cell v e.b ≡ cell u e.b = omega (arith, f.low e.b, g.low e.b) in
        g.closed e y a b

-- The same relaxation, of a set with the same edges.
pub with : {P Q : Edge → Type 0} {t u : List ℕ} {i : ℕ} → ((e : Edge) → P e → Q e) → ((e : Edge) → Q e → P e)
    → Relaxed P t u i → Relaxed Q t u i
with h k r =
    record {
      size = r.size;
      falls = r.falls;
      low = r.low;
      same = r.same;
      derived = λ i. wider h (r.derived i);
      closed = λ e x. r.closed e (k e x);
    }

-- A store changes the sum by what it changes the cell.
sum_set : (l : List ℕ) (k v : ℕ) → k < length l → sum (set l k v) + get_or l k 0 ≡ sum l + v
sum_set [] k v h = absurd (omega arith)
sum_set (x ∷ xs) zero v h = omega arith
sum_set (x ∷ xs) (suc k) v h = omega (arith, sum_set xs k v (omega arith))

-- A cell after a store.
stored : (l : List ℕ) (k v : ℕ) → k < length l → (P : ℕ → ℕ → Type 0) → P k v → ((i : ℕ) → P i (cell l i)) → (i : ℕ)
    → P i (cell (set l k v) i)
stored l k v h P p q i =
    elim (ℕ_discrete i k) [
      | yes e ↦ rw (e, get_or-set_same l k v 0 h) p
      | no n ↦ rw (get_or-set_other l k i v 0 n) (q i)
    ]

-- What a count after an edge is: no more than it was; where the parts are reached, no more than they offer; and what it
-- was or what they offer.
pub record Better (w x y old new : ℕ) : Type 0 where
  pub low : new ≤ old
  pub most : x ≤ cap → y ≤ cap → (new ≤ cap) × (new ≤ w + x + y)
  pub which : (new ≡ old) ⊎ ((x ≤ cap) × (y ≤ cap) × (new ≡ min (w + x + y) cap))

pub better : (w x y old : ℕ) → Better w x y old (best_of w x y old)
unfolding best_of
better w x y old =
    elim (dec_le x cap) [
      | yes i ↦ elim (dec_le y cap) [
        | yes j ↦ rw (le-leb x cap i, le-leb y cap j)
            (record {
              low = omega arith;
              most = λ p q. (omega arith, omega arith);
              which = elim (dec_le old (min (w + x + y) cap)) [ yes h ↦ inl (omega arith) | no h ↦ inr (i, j, omega arith) ];
            })
        | no j ↦ rw (le-leb x cap i, lt-leb y cap (omega arith))
            (record { low = le_refl old; most = λ p q. absurd (j q); which = inl refl })
      ]
      | no i ↦ rw (lt-leb x cap (omega arith)) (record { low = le_refl old; most = λ p q. absurd (i p); which = inl refl })
    ]

-- A change is counted exactly if there is one.
counted : (new old : ℕ) → new ≤ old → (less new old + new ≤ old) × (less new old ≡ 0 → new ≡ old)
counted new old h =
    elim (dec_lt new old) [
      | yes l ↦ rw (lt-ltb new old l) (omega arith, λ e. absurd (omega arith))
      | no n ↦ rw (le-ltb new old (omega arith)) (omega arith, λ e. omega arith)
    ]

-- One edge more. Its parts may have been read at any time since the start: their counts lie between those then and now.
module _ {P : Edge → Type 0} {t u : List ℕ} {i : ℕ} (f : Relaxed P t u i) (e : Edge) (h : e.to < length u) {x y : ℕ}
    (a : From (λ d. P d ⊎ (d ≡ e)) (cell t) e.a x) (b : From (λ d. P d ⊎ (d ≡ e)) (cell t) e.b y)
    (xt : x ≤ cell t e.a) (ux : cell u e.a ≤ x) (yt : y ≤ cell t e.b) (uy : cell u e.b ≤ y)
    (new : ℕ) (n : new ≡ best_of e.w x y (cell u e.to)) where
  -- The stored count.
  best : Better e.w x y (cell u e.to) new
  best = rw n (better e.w x y (cell u e.to))

  -- The table after the store is nowhere above the one before.
  fall : (k : ℕ) → cell (set u e.to new) k ≤ cell u k
  fall = stored u e.to new h (λ k v. v ≤ cell u k) best.low (λ k. le_refl (cell u k))

  -- The edge itself holds where its parts are as they were.
  own : cell (set u e.to new) e.a ≡ cell t e.a → cell (set u e.to new) e.b ≡ cell t e.b
      → EdgeHolds (set u e.to new) e
  own p q =
      let xa : x ≡ cell t e.a = omega (arith, fall e.a) in
      let yb : y ≡ cell t e.b = omega (arith, fall e.b) in
      let v : cell (set u e.to new) e.to ≡ new = get_or-set_same u e.to new 0 h in
      record {
        reached = λ i j. omega (arith, (best.most (omega arith) (omega arith)).0);
        most = λ i j. omega (arith, (best.most (omega arith) (omega arith)).1);
      }

  pub one : Relaxed (λ d. P d ⊎ (d ≡ e)) t (set u e.to new) (i + less new (cell u e.to))
  one =
      let less_old = counted new (cell u e.to) best.low in
      record {
        size = length-set u e.to new ∙ f.size;
        falls = omega (arith, sum_set u e.to new h, f.falls, less_old.0);
        low = λ k. le_trans (fall k) (f.low k);
        same = λ z. rw (less_old.1 (omega arith), set-get_or u e.to 0) (f.same (omega arith));
        derived = stored u e.to new h (λ k v. From (λ d. P d ⊎ (d ≡ e)) (cell t) k v) made (λ k. wider (λ d. inl) (f.derived k));
        closed = closed;
      }
    where
      made : From (λ d. P d ⊎ (d ≡ e)) (cell t) e.to new
      made =
          ⊎_elim
          (λ o. subst (λ v. From (λ d. P d ⊎ (d ≡ e)) (cell t) e.to v) (sym o) (wider (λ d. inl) (f.derived e.to)))
          (λ o. subst (λ v. From (λ d. P d ⊎ (d ≡ e)) (cell t) e.to v) (sym o.2) (by e (inr refl) a b o.0 o.1))
          best.which

      closed : (d : Edge) → P d ⊎ (d ≡ e) → cell (set u e.to new) d.a ≡ cell t d.a
          → cell (set u e.to new) d.b ≡ cell t d.b → EdgeHolds (set u e.to new) d
      closed d (inl o) p q =
          let pa : cell u d.a ≡ cell t d.a = omega (arith, fall d.a, f.low d.a) in
          let qb : cell u d.b ≡ cell t d.b = omega (arith, fall d.b, f.low d.b) in
          still fall (p ∙ sym pa) (q ∙ sym qb) (f.closed d o pa qb)
      closed d (inr o) p q =
          subst (λ d. cell (set u e.to new) d.a ≡ cell t d.a → cell (set u e.to new) d.b ≡ cell t d.b → EdgeHolds (set u e.to new) d)
          (sym o) own p q

-- A loop over a family of edges: none yet, and one index more.
pub loop_start : (F : ℕ → Edge → Type 0) (t : List ℕ) → Relaxed (Below 0 F) t t 0
loop_start F t = settled t (λ e b. absurd (omega (arith, b.inside)))

pub loop_turn : {F : ℕ → Edge → Type 0} {n : ℕ} {t u v : List ℕ} {i j : ℕ}
    → Relaxed (Below n F) t u i → Relaxed (F n) u v j → Relaxed (Below (n + 1) F) t v (i + j)
loop_turn {F} {n} f g = with more less_one (then f g)
  where
    more : (e : Edge) → Below n F e ⊎ F n e → Below (n + 1) F e
    more e (inl b) = record { i = b.i; inside = omega (arith, b.inside); at = b.at }
    more e (inr a) = record { i = n; inside = omega arith; at = a }

    less_one : (e : Edge) → Below (n + 1) F e → Below n F e ⊎ F n e
    less_one e b =
        elim (dec_lt b.i n) [
          | yes h ↦ inl (record { i = b.i; inside = h; at = b.at })
          | no h ↦ let same : b.i ≡ n = omega (arith, b.inside) in inr (subst (λ i. F i e) same b.at)
        ]
