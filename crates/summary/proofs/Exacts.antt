-- A solved table is exact: its edges hold, so no entry is above what a stretch needs; and each count followed by edges, so
-- some stretch has it.
use mathlib.Core.List.{List, [], append-nil}
use mathlib.Core.Logic.{inl, inr}
use mathlib.Core.Path.{◌≡◌, refl, ap}
use Prim.Native.Nat.{ℕ, zero, suc, ◌+◌, ◌-◌, ◌≤◌, ◌<◌, min}
use native.Mathlib.Decide.{dec_le}
use native.Mathlib.Omega.{arith}
use lib.ListN.{length}
use borrow.Author.Tests.{le-leb, lt-leb}
use Rattle.model.specs.declared.Thread.{Thread}
use Rattle.model.specs.Tops.{Top}
use Rattle.model.specs.Walk.{Step}
use Rattle.model.specs.Fits.{TopFits, ThreadFits}
use Rattle.summary.specs.Cells.{controls_of, free_of, first, second, size, blank, Plain, First, Second, Solved}
use Rattle.summary.specs.Control.{Control, number, TurnEnd, Moves, Switches, dest, cell_from, entry, InTable, Stays, EndInTable, Inside, Summed}
use Rattle.summary.specs.Edges.{cell, From}
use Rattle.summary.specs.Stretch.{End, end_of, Asks}
use Rattle.summary.specs.Table.{cap, Uses}
use Rattle.summary.proofs.Complete.{EdgesHold, closed}
use Rattle.summary.proofs.Numbers.{controls_range, shape_fits, dest_low}
use Rattle.summary.proofs.Ranging.{ranged}
use Rattle.summary.proofs.Relaxing.{wider}
use Rattle.summary.proofs.Sound.{sound}
use Rattle.summary.proofs.Tables.{bounded}

-- Where the part of a table of N controls with so many turn ends inside stops.
abbrev bound : ℕ → ℕ → ℕ
bound N zero = first N
bound N (suc zero) = second N
bound N (suc (suc n)) = size N

-- A cell is within its part of the table.
cell_low : (ends : ℕ → TurnEnd) (N n k j p γ d : ℕ) → n ≤ 2 → Inside 4 n ends → j + k ≤ n → p < N → γ ≤ 16 → d < 16
    → cell_from N ends k j p γ d < bound N n
cell_low ends N zero zero j p γ d two inside e g s i = omega arith
cell_low ends N (suc zero) zero j p γ d two inside e g s i = omega arith
cell_low ends N (suc (suc n)) zero j p γ d two inside e g s i = omega arith
cell_low ends N zero (suc k) j p γ d two inside e g s i = absurd (omega arith)
cell_low ends N (suc zero) (suc zero) j p γ d two inside e g s i = let l = inside j (omega arith) in omega arith
cell_low ends N (suc (suc n)) (suc zero) j p γ d two inside e g s i = let l = inside j (omega arith) in omega arith
cell_low ends N (suc zero) (suc (suc k)) j p γ d two inside e g s i = absurd (omega arith)
cell_low ends N (suc (suc n)) (suc (suc k)) j p γ d two inside e g s i = let l = inside (suc j) (omega arith) in omega arith

module _ {t : Thread} {top : Top} {G n : ℕ} {ends : ℕ → TurnEnd} {tab : List ℕ} (fits : ThreadFits G t) (named : TopFits top) (some : 1 ≤ G) (four : G ≤ 4) (two : n ≤ 2) (inside : Inside G n ends)
    (R : EdgesHold t top (controls_of t G) n ends tab)
    (from : (k : ℕ) → k < bound (controls_of t G) n → From (Second t top (controls_of t G) (ends 0).leave (ends 0).enter) (blank (controls_of t G)) k (cell tab k)) where
  -- A table whose edges hold and whose counts follow by them is exact.
  pub summed : Summed t top G n ends tab
  summed = record { exact = λ turn_of c γ d p q o. record { some = found turn_of c γ d p q o; least = λ {ss} s. least turn_of c γ d p q o.1 ss s } }
    where
      least : (turn_of : ℕ → ℕ) (c : Control) (γ : ℕ) (d : End Control) → InTable (controls_of t G) n c → γ ≤ 16 → Asks (Stays top) d
          → (us : List Step) → Uses (Moves t turn_of) (Switches ends n) c γ d us
          → (entry (controls_of t G) ends tab c γ d ≤ cap) × (entry (controls_of t G) ends tab c γ d ≤ length us)
      least turn_of c γ d p q k us s =
          let range = controls_range t G in
          let ranges = ranged turn_of four fits inside in
          let small : Inside (free_of (controls_of t G)) n ends = λ j l. let z = inside j l in (omega arith, omega arith) in
          let b = bounded _ _ _ _ _ ranges (closed turn_of (omega arith) (omega arith) two small ranges R) p q k (s []) in
          (b.reached, omega (arith, b.most, ap length (append-nil us)))

      found : (turn_of : ℕ → ℕ) (c : Control) (γ : ℕ) (d : End Control) → InTable (controls_of t G) n c → γ ≤ 16
          → EndInTable top (controls_of t G) n d → entry (controls_of t G) ends tab c γ d ≤ cap
          → (us : List Step) × Uses (Moves t turn_of) (Switches ends n) c γ d us × (min (length us) cap ≡ entry (controls_of t G) ends tab c γ d)
      found turn_of c γ d p q o h =
          elim (dec_le c.passed (end_of d).passed) [
            | yes l ↦
                let range = controls_range t G in
                let shape = shape_fits top (controls_of t G) (omega arith) (omega arith) in
                let k : ℕ = (end_of d).passed - c.passed in
                let at : ℕ = cell_from (controls_of t G) ends k c.passed (number c) γ (dest d) in
                let same : entry (controls_of t G) ends tab c γ d ≡ cell tab at = rw (le-leb c.passed (end_of d).passed l) in
                let low = cell_low ends (controls_of t G) n k c.passed (number c) γ (dest d) two (λ j i. let z = inside j i in (omega arith, omega arith)) (omega (arith, o.0.passed)) p.number q
                (omega (arith, dest_low top (controls_of t G) d (omega arith) o, shape.dests)) in
                let u = sound t top G turn_of ends n fits named some four two inside (from at low) c γ d l p q o refl (rw same at h) in
                let b = least turn_of c γ d p q o.1 u.0 u.1 in
                (u.0, u.1, omega (arith, same, u.2, b.1))
            | no l ↦ absurd (omega (arith, rw (lt-leb c.passed (end_of d).passed (omega arith)) at h))
          ]

-- The three solved tables.
pub plain_summed : {t : Thread} {top : Top} {G : ℕ} {tab : List ℕ} → ThreadFits G t → TopFits top → 1 ≤ G → G ≤ 4
    → Solved (controls_of t G) (Plain t top (controls_of t G)) (first (controls_of t G)) tab
    → (ends : ℕ → TurnEnd) → Summed t top G 0 ends tab
plain_summed f k o g s ends =
    summed f k o g (omega arith) (λ j h. absurd (omega arith))
    (record {
      low = s.low;
      tops = λ e p. s.closed e (inl p);
      plains = λ e p. s.closed e (inr p);
      ends1 = λ h. absurd (omega arith);
      lanes1 = λ h. absurd (omega arith);
      ends2 = λ h. absurd (omega arith);
      cross2 = λ h. absurd (omega arith);
      lanes2 = λ h. absurd (omega arith);
    })
    (λ k h. wider (λ e p. inl (inl p)) (s.derived k h))

pub first_summed : {t : Thread} {top : Top} {G : ℕ} {tab : List ℕ} → ThreadFits G t → TopFits top → 1 ≤ G → G ≤ 4
    → Solved (controls_of t G) (First t top (controls_of t G)) (second (controls_of t G)) tab
    → (ends : ℕ → TurnEnd) → Inside G 1 ends → Summed t top G 1 ends tab
first_summed f k o g s ends i =
    summed f k o g (omega arith) i
    (record {
      low = λ k h. s.low k (omega arith);
      tops = λ e p. s.closed e (inl (inl p));
      plains = λ e p. s.closed e (inl (inr p));
      ends1 = λ h e p. s.closed e (inr (inl p));
      lanes1 = λ h e p. s.closed e (inr (inr p));
      ends2 = λ h. absurd (omega arith);
      cross2 = λ h. absurd (omega arith);
      lanes2 = λ h. absurd (omega arith);
    })
    (λ k h. wider (λ e p. inl p) (s.derived k h))

pub second_summed : {t : Thread} {top : Top} {G o i : ℕ} {tab : List ℕ} → ThreadFits G t → TopFits top → 1 ≤ G → G ≤ 4
    → Solved (controls_of t G) (Second t top (controls_of t G) o i) (size (controls_of t G)) tab
    → (ends : ℕ → TurnEnd) → Inside G 2 ends → (ends 0).leave ≡ o → (ends 0).enter ≡ i → Summed t top G 2 ends tab
second_summed {t} {top} {G} {o} {i} {tab} f k l g s ends n p q =
    let r : Solved (controls_of t G) (Second t top (controls_of t G) (ends 0).leave (ends 0).enter) (size (controls_of t G)) tab = rw (p, q) s in
    summed f k l g (omega arith) n
    (record {
      low = λ k h. r.low k (omega arith);
      tops = λ e x. r.closed e (inl (inl (inl x)));
      plains = λ e x. r.closed e (inl (inl (inr x)));
      ends1 = λ h e x. r.closed e (inl (inr (inl x)));
      lanes1 = λ h e x. r.closed e (inl (inr (inr x)));
      ends2 = λ h e x. r.closed e (inr (inl x));
      cross2 = λ h e x. r.closed e (inr (inr (inl x)));
      lanes2 = λ h e x. r.closed e (inr (inr (inr x)));
    })
    r.derived
