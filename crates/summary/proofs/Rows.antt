-- A row of edges, one after another: the fixed part is read once, and a row whose fixed part is not reached changes nothing.
use mathlib.Core.Bool.{Bool, true, false}
use mathlib.Core.List.{List}
use mathlib.Core.Logic.{◌⊎◌, inl, inr}
use mathlib.Core.Path.{◌≡◌, refl, sym, subst, ◌∙◌}
use Prim.Native.Nat.{ℕ, ◌+◌, ◌-◌, ◌≤◌, ◌<◌, min, max}
use native.Mathlib.Nat.{add-zero, add_assoc}
use borrow.Author.Tests.{le-leb, lt-leb}
use native.Mathlib.Nat.{le_refl}
use native.Mathlib.Decide.{dec_le, dec_lt}
use native.Mathlib.Omega.{arith}
use lib.ListN.{length, set}
use mir.Val.{bool_byte}
use Rattle.model.specs.Bits.{one_if}
use Rattle.summary.specs.Edges.{Edge, cell, best_of, EdgeHolds, kept, less, Relaxed, Row}
use Rattle.summary.specs.Table.{cap, unreached}
use Rattle.summary.proofs.Relaxing.{wider, with, then, one, settled}

-- A part that is reached may be counted into the weight.
best_in : (w x y old : ℕ) → x ≤ cap → best_of (w + x) 0 y old ≡ best_of w x y old
unfolding best_of
best_in w x y old h = rw (le-leb x cap h, add-zero)

-- What an edge leaves, without a branch: what is not reached is no less than any count.
pub offered : (w y old : ℕ) → y ≤ unreached → old ≤ unreached → min old (max y (min (w + y) cap)) ≡ best_of w 0 y old
unfolding best_of
offered w y old i j =
    elim (dec_le y cap) [
      | yes h ↦ rw (le-leb y cap h) (omega arith)
      | no n ↦ rw (lt-leb y cap (omega arith)) (omega arith)
    ]

-- A comparison as a number is 1 where it holds.
pub counted : (b : Bool) → bool_byte b ≡ one_if b
counted true = refl
counted false = refl

-- The rows of d and d + 1 edges differ by one.
row_more : (w k a b d : ℕ) (e : Edge) → (Row w k a b d e ⊎ (e ≡ record { w = w; to = k + d; a = a; b = b + d }))
    → Row w k a b (d + 1) e
row_more w k a b d e (inl r) = record { x = r.x; inside = omega (arith, r.inside); is = r.is }
row_more w k a b d e (inr r) = record { x = d; inside = omega arith; is = r }

row_less : (w k a b d : ℕ) (e : Edge) → Row w k a b (d + 1) e
    → Row w k a b d e ⊎ (e ≡ record { w = w; to = k + d; a = a; b = b + d })
row_less w k a b d e r =
    elim (dec_lt r.x d) [
      | yes h ↦ inl (record { x = r.x; inside = h; is = r.is })
      | no n ↦
          let same : r.x ≡ d = omega (arith, r.inside) in
          inr (subst (λ x. e ≡ record { w = w; to = k + x; a = a; b = b + x }) same r.is)
    ]

-- One edge more of a row.
pub row_turn : {w k a b d : ℕ} {t u : List ℕ} {i : ℕ} → Relaxed (Row w k a b d) t u i → cell t a ≤ cap → k + d < length u
    → (new : ℕ) → new ≡ best_of (w + cell t a) 0 (cell u (b + d)) (cell u (k + d))
    → Relaxed (Row w k a b (d + 1)) t (set u (k + d) new) (i + less new (cell u (k + d)))
row_turn {w} {k} {a} {b} {d} {t} {u} {i} f h room new n =
    with (row_more w k a b d) (row_less w k a b d)
    (one f (record { w = w; to = k + d; a = a; b = b + d }) room (kept a) (wider (λ e. inl) (f.derived (b + d)))
    (le_refl (cell t a)) (f.low a) (f.low (b + d)) (le_refl (cell u (b + d))) new (n ∙ best_in w (cell t a) (cell u (b + d)) (cell u (k + d)) h))

-- A row of no edges.
pub row_start : (w k a b : ℕ) (t : List ℕ) → Relaxed (Row w k a b 0) t t 0
row_start w k a b t = settled t (λ e r. absurd (omega (arith, r.inside)))

-- A row whose fixed part is not reached holds as it is.
pub row_idle : (w k a b n : ℕ) (t : List ℕ) → cap < cell t a → Relaxed (Row w k a b n) t t 0
row_idle w k a b n t h =
    settled t (λ e r. subst (EdgeHolds t) (sym r.is) (record { reached = λ i j. absurd (omega arith); most = λ i j. absurd (omega arith) }))

-- A row over itself holds as it is.
pub row_self : (w k a n : ℕ) (t : List ℕ) → Relaxed (Row w k a k n) t t 0
row_self w k a n t =
    settled t (λ e r. subst (EdgeHolds t) (sym r.is) (record { reached = λ i j. j; most = λ i j. omega arith }))

-- A row, and another that goes on from its end.
pub row_on : {w k a b d n : ℕ} {t u v : List ℕ} {i j : ℕ} → Relaxed (Row w k a b d) t u i → Relaxed (Row w (k + d) a (b + d) n) u v j
    → Relaxed (Row w k a b (d + n)) t v (i + j)
row_on {w} {k} {a} {b} {d} {n} f g = with joined parted (then f g)
  where
    joined : (e : Edge) → Row w k a b d e ⊎ Row w (k + d) a (b + d) n e → Row w k a b (d + n) e
    joined e (inl r) = record { x = r.x; inside = omega (arith, r.inside); is = r.is }
    joined e (inr r) = record { x = d + r.x; inside = omega (arith, r.inside); is = rw (sym (add_assoc k d r.x), sym (add_assoc b d r.x)) r.is }

    parted : (e : Edge) → Row w k a b (d + n) e → Row w k a b d e ⊎ Row w (k + d) a (b + d) n e
    parted e r =
        elim (dec_lt r.x d) [
          | yes h ↦ inl (record { x = r.x; inside = h; is = r.is })
          | no h ↦
              let far : r.x ≡ d + (r.x - d) = omega arith in
              let is = subst (λ x. e ≡ record { w = w; to = k + x; a = a; b = b + x }) far r.is in
              inr (record { x = r.x - d; inside = omega (arith, r.inside); is = rw (add_assoc k d (r.x - d), add_assoc b d (r.x - d)) is })
        ]
