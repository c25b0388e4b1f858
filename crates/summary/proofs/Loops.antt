-- The two kinds of loops of a search, each as an invariant and three laws.
use mathlib.Core.List.{List}
use mathlib.Core.Path.{◌≡◌, refl, ap, ◌∙◌}
use Prim.Native.Nat.{ℕ, ◌+◌, ◌*◌, ◌≤◌, ◌<◌}
use native.Mathlib.Nat.{le_refl, le_trans, le_antisymm, mul-add, mul-one}
use native.Mathlib.Omega.{arith}
use lib.ListN.{length}
use Rattle.summary.specs.Edges.{Edge, cell, EdgeHolds, From, kept, Relaxed, Closes, Below}
use Rattle.summary.proofs.Relaxing.{onward, loop_start, loop_turn}

-- A loop over a family of edges: the indexes below i are relaxed, with at most so many changes each.
pub record Turning (most : ℕ) (F : ℕ → Edge → Type 0) (n : ℕ) (old new : List ℕ) (changes i : ℕ) : Type 0 where
  pub inside : i ≤ n
  pub few : changes ≤ most * i
  pub relaxed : Relaxed (Below i F) old new changes

pub starts : (most : ℕ) (F : ℕ → Edge → Type 0) (n : ℕ) (t : List ℕ) → Turning most F n t t 0 0
starts most F n t = record { inside = omega arith; few = omega arith; relaxed = loop_start F t }

pub turns : {most : ℕ} {F : ℕ → Edge → Type 0} {n : ℕ} {t u v : List ℕ} {changes more i : ℕ}
    → Turning most F n t u changes i → i < n → Relaxed (F i) u v more → more ≤ most
    → Turning most F n t v (changes + more) (i + 1)
turns {most} {i = i} l h r b =
    record {
      inside = omega arith;
      few = omega (arith, l.few, mul-add most i 1, mul-one most);
      relaxed = loop_turn l.relaxed r;
    }

pub ends : {most : ℕ} {F : ℕ → Edge → Type 0} {n : ℕ} {t u : List ℕ} {changes i : ℕ}
    → Turning most F n t u changes i → n ≤ i → Relaxed (Below n F) t u changes × (changes ≤ most * n)
ends l h = let e = le_antisymm l.inside h in (rw e at l.relaxed, rw e at l.few)

-- A loop of passes until one changes nothing: once a pass has changed nothing, every edge holds.
pub record Closing (W : Edge → Type 0) (old new : List ℕ) (changes : ℕ) : Type 0 where
  pub size : length new ≡ length old
  pub low : (k : ℕ) → cell new k ≤ cell old k
  pub derived : (k : ℕ) → From W (cell old) k (cell new k)
  pub done : changes ≡ 0 → (e : Edge) → W e → EdgeHolds new e

pub opens : (W : Edge → Type 0) (t : List ℕ) → Closing W t t 1
opens W t = record { size = refl; low = λ k. le_refl (cell t k); derived = kept; done = λ h. absurd (omega arith) }

pub passes : {W : Edge → Type 0} {t u v : List ℕ} {i j : ℕ} → Closing W t u i → Relaxed W u v j → Closing W t v j
passes {W} {t} {u} {v} l r =
    record {
      size = r.size ∙ l.size;
      low = λ k. le_trans (r.low k) (l.low k);
      derived = λ k. onward l.derived (r.derived k);
      done = λ h e w. let same = r.same h in r.closed e w (ap (λ x. cell x e.a) same) (ap (λ x. cell x e.b) same);
    }

pub closes : {W : Edge → Type 0} {t u : List ℕ} {i : ℕ} → Closing W t u i → i ≡ 0 → Closes W t u
closes l h = record { size = l.size; low = l.low; derived = l.derived; closed = l.done h }
