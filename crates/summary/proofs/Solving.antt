-- Parts of the table are solved one after another: edges that lead to one part change no other, so what is solved stays.
use mathlib.Core.List.{List}
use mathlib.Core.Logic.{◌⊎◌, inl, inr}
use mathlib.Core.Path.{◌≡◌, refl, ◌∙◌}
use Prim.Native.Nat.{ℕ, ◌≤◌, ◌<◌}
use native.Mathlib.Nat.{le_trans}
use native.Mathlib.Decide.{dec_lt}
use native.Mathlib.Omega.{arith}
use Rattle.summary.specs.Edges.{Edge, cell, EdgeHolds, From, kept, by, Relaxed, Closes}
use Rattle.summary.specs.Cells.{blank, Reset, Solved}
use Rattle.summary.proofs.Relaxing.{wider, still}
use Rattle.summary.proofs.Spans.{Span}

-- A cell that no edge leads to is as it was.
unled : {P : Edge → Type 0} {t : ℕ → ℕ} {k v : ℕ} → ((e : Edge) → P e → e.to ≡ k → ⊥) → From P t k v → v ≡ t k
unled h (kept k) = refl
unled h (by e p a b i j) = absurd (h e p refl)

-- What follows from what followed below a bound, where parts lie below it.
inward : {P Q : Edge → Type 0} {t u : ℕ → ℕ} (bound : ℕ) → ((e : Edge) → P e → (e.a < bound) × (e.b < bound))
    → ((e : Edge) → P e → Q e) → ((k : ℕ) → k < bound → From Q t k (u k))
    → {k x : ℕ} → k < bound → From P u k x → From Q t k x
inward bound parts sub start h (kept k) = start k h
inward bound parts sub start h (by e p a b i j) =
    by e (sub e p) (inward bound parts sub start (parts e p).0 a) (inward bound parts sub start (parts e p).1 b) i j

-- An edge holds where its cells are as in a table in which it holds.
moved : {t u : List ℕ} {e : Edge} → cell u e.to ≡ cell t e.to → cell u e.a ≡ cell t e.a
    → cell u e.b ≡ cell t e.b → EdgeHolds t e → EdgeHolds u e
moved k a b h = record { reached = rw (k, a, b) h.reached; most = rw (k, a, b) h.most }

-- The same cells, solved for a set with the same edges.
pub alike : {N : ℕ} {P Q : Edge → Type 0} {bound : ℕ} {t : List ℕ} → ((e : Edge) → P e → Q e) → ((e : Edge) → Q e → P e)
    → Solved N P bound t → Solved N Q bound t
alike h k s = record { derived = λ i l. wider h (s.derived i l); low = s.low; closed = λ e q. s.closed e (k e q) }

-- The first part, from a blank one: edges between parts that are 0 once, then others until nothing changes.
module _ {N : ℕ} {O W : Edge → Type 0} {bound : ℕ} {t u v z : List ℕ} {changes : ℕ} (once : (e : Edge) → O e → Span 0 bound bound e)
    (own : (e : Edge) → W e → Span 0 bound bound e) (r : Reset N 0 bound t u)
    (zeros : (e : Edge) → O e → (cell u e.a ≡ 0) × (cell u e.b ≡ 0)) (f : Relaxed O u v changes) (c : Closes W v z) where
  -- What is 0 stays so.
  zero_still : (k : ℕ) → cell u k ≡ 0 → (cell v k ≡ cell u k) × (cell z k ≡ cell v k)
  zero_still k e = (omega (arith, f.low k), omega (arith, f.low k, c.low k))

  pub solves_first : Solved N (λ e. O e ⊎ W e) bound z
  solves_first = record { derived = derived; low = low; closed = closed }
    where
      start : (k : ℕ) → k < bound → From (λ e. O e ⊎ W e) (blank N) k (cell u k)
      start k h = rw (r.inside k (omega arith) h) (kept k)

      between : (k : ℕ) → k < bound → From (λ e. O e ⊎ W e) (blank N) k (cell v k)
      between k h = inward bound (λ e o. ((once e o).a, (once e o).b)) (λ e. inl) start h (f.derived k)

      derived : (k : ℕ) → k < bound → From (λ e. O e ⊎ W e) (blank N) k (cell z k)
      derived k h = inward bound (λ e w. ((own e w).a, (own e w).b)) (λ e. inr) between h (c.derived k)

      low : (k : ℕ) → k < bound → cell z k ≤ blank N k
      low k h = rw (r.inside k (omega arith) h) at (le_trans (c.low k) (f.low k))

      closed : (e : Edge) → O e ⊎ W e → EdgeHolds z e
      closed e (inl o) =
          let a = zero_still e.a (zeros e o).0 in
          let b = zero_still e.b (zeros e o).1 in
          still c.low a.1 b.1 (f.closed e o a.0 b.0)
      closed e (inr w) = c.closed e w

-- The next part: blank, then edges from the parts before it once, then its own edges until nothing changes.
module _ {N : ℕ} {S O W : Edge → Type 0} {low high end : ℕ} {t u v z : List ℕ} {changes : ℕ} (lh : low ≤ high) (he : high ≤ end)
    (spans : (e : Edge) → S e → Span 0 low low e) (once : (e : Edge) → O e → Span low high low e)
    (own : (e : Edge) → W e → Span low high high e)
    (s : Solved N S low t) (r : Reset N low end t u) (f : Relaxed O u v changes) (c : Closes W v z) where
  -- Below, nothing changes.
  kept_once : (k : ℕ) → k < low → cell v k ≡ cell u k
  kept_once k h = unled (λ e o q. omega (arith, (once e o).from)) (f.derived k)

  kept_own : (k : ℕ) → k < low → cell z k ≡ cell v k
  kept_own k h = unled (λ e o q. omega (arith, (own e o).from)) (c.derived k)

  same : (k : ℕ) → k < low → cell z k ≡ cell t k
  same k h = kept_own k h ∙ kept_once k h ∙ r.below k h

  held : (e : Edge) → S e → EdgeHolds z e
  held e w =
      let p = spans e w in
      moved (same e.to p.to) (same e.a p.a) (same e.b p.b) (s.closed e w)

  solved_still : Solved N S low z
  solved_still =
      record {
        derived = λ k h. rw (same k h) (s.derived k h);
        low = λ k h. rw (same k h) (s.low k h);
        closed = held;
      }

  solved_next : Solved N (λ e. S e ⊎ (O e ⊎ W e)) high z
  solved_next = record { derived = third; low = falls; closed = closed }
    where
      first : (k : ℕ) → k < high → From (λ e. S e ⊎ (O e ⊎ W e)) (blank N) k (cell u k)
      first k h =
          elim (dec_lt k low) [
            | yes l ↦ rw (r.below k l) (wider (λ e. inl) (s.derived k l))
            | no n ↦ rw (r.inside k (omega arith) (omega arith)) (kept k)
          ]

      second : (k : ℕ) → k < high → From (λ e. S e ⊎ (O e ⊎ W e)) (blank N) k (cell v k)
      second k h =
          inward high (λ e o. let p = once e o in (omega arith, omega arith)) (λ e o. inr (inl o)) first h (f.derived k)

      third : (k : ℕ) → k < high → From (λ e. S e ⊎ (O e ⊎ W e)) (blank N) k (cell z k)
      third k h = inward high (λ e w. ((own e w).a, (own e w).b)) (λ e w. inr (inr w)) second h (c.derived k)

      falls : (k : ℕ) → k < high → cell z k ≤ blank N k
      falls k h =
          elim (dec_lt k low) [
            | yes l ↦ rw (same k l) (s.low k l)
            | no n ↦ rw (r.inside k (omega arith) (omega arith)) at (le_trans (c.low k) (f.low k))
          ]

      closed : (e : Edge) → S e ⊎ (O e ⊎ W e) → EdgeHolds z e
      closed e (inl w) = held e w
      closed e (inr (inl o)) =
          let p = once e o in
          still c.low (kept_own e.a p.a) (kept_own e.b p.b)
          (f.closed e o (kept_once e.a p.a) (kept_once e.b p.b))
      closed e (inr (inr w)) = c.closed e w

  pub solves_next : Solved N (λ e. S e ⊎ (O e ⊎ W e)) high z × Solved N S low z
  solves_next = (solved_next, solved_still)

-- The edges relaxed once may be two sets.
pub apart : {N : ℕ} {S P Q W : Edge → Type 0} {bound : ℕ} {t : List ℕ}
    → Solved N (λ e. S e ⊎ ((P e ⊎ Q e) ⊎ W e)) bound t → Solved N (λ e. S e ⊎ (P e ⊎ (Q e ⊎ W e))) bound t
apart {N} {S} {P} {Q} {W} = alike right left
  where
    right : (e : Edge) → S e ⊎ ((P e ⊎ Q e) ⊎ W e) → S e ⊎ (P e ⊎ (Q e ⊎ W e))
    right e (inl x) = inl x
    right e (inr (inl (inl x))) = inr (inl x)
    right e (inr (inl (inr x))) = inr (inr (inl x))
    right e (inr (inr x)) = inr (inr (inr x))

    left : (e : Edge) → S e ⊎ (P e ⊎ (Q e ⊎ W e)) → S e ⊎ ((P e ⊎ Q e) ⊎ W e)
    left e (inl x) = inl x
    left e (inr (inl x)) = inr (inl (inl x))
    left e (inr (inr (inl x))) = inr (inl (inr x))
    left e (inr (inr (inr x))) = inr (inr x)
