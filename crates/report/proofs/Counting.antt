-- Bits counted one by one; and the lines of the lengths, put one after another: where those of n lengths stand, the bits of
-- the next length begin at `powers g n`.
use mathlib.Core.Bool.{Bool}
use mathlib.Core.List.{List, ◌++◌}
use mathlib.Core.Path.{◌≡◌, refl}
use Prim.Native.Nat.{ℕ, zero, suc, ◌+◌, ◌*◌, ◌%◌, ◌^◌, ◌≤◌, ◌<◌}
use native.Mathlib.Numerals.{add-one}
use native.Mathlib.Omega.{arith}
use lib.Dec.{eqb}
use lib.ListN.{length}
use Rattle.model.specs.Bits.{one_if, bit_at}
use Rattle.model.specs.Lines.{powers, position, digits}
use Rattle.model.proofs.Positions.{digits_position}
use Rattle.judge.proofs.Roomy.{powers_low}
use Rattle.writer.specs.declared.output.Output.{Output}
use Rattle.writer.specs.Output.{Appends, HasRoom}
use Rattle.writer.proofs.Outputs.{nothing, ◌then◌}
use Rattle.costs.specs.Lanes.{full_lines}
use Rattle.report.specs.Table.{standing, Fills}
use Rattle.report.specs.Text.{count_of, pair_line, count_lines}
use Rattle.report.proofs.Sizes.{count_short}

-- The lowest bit is 1 or 0.
pub lowest : (x : ℕ) → x % 2 ≡ one_if (eqb (x % 2) 1)
lowest x = go (x % 2) (omega arith)
  where
    go : (y : ℕ) → y < 2 → y ≡ one_if (eqb y 1)
    go zero h = refl
    go (suc zero) h = refl
    go (suc (suc y)) h = absurd (omega arith)

-- One number more is looked at.
pub counted : (has : ℕ → Bool) (v : ℕ) {r x : ℕ} → r ≡ count_of has v → x ≡ one_if (has v) → r + x ≡ count_of has (v + 1)
unfolding count_of
counted has v e f = rw (add-one, e, f)

-- Of none, none is counted.
pub counted_none : (has : ℕ → Bool) → 0 ≡ count_of has 0
unfolding count_of
counted_none has = refl

-- Sets that agree below n have as many numbers there.
pub count_same : (f h : ℕ → Bool) (n : ℕ) → ((v : ℕ) → v < n → f v ≡ h v) → count_of f n ≡ count_of h n
unfolding count_of
count_same f h zero e = refl
count_same f h (suc n) e = rw (count_same f h n (λ v l. e v (omega arith)), e n (omega arith))

-- The line of one length more.
next_line : (g n : ℕ) (table : List ℕ) {from w c : ℕ} → from ≡ powers g n → w ≡ g ^ (n + 1)
    → c ≡ count_of (λ v. bit_at table (from + v)) w
    → count_lines g (standing g table) (n + 1) ≡ count_lines g (standing g table) n ++ pair_line (n + 1) c
unfolding count_lines standing
next_line g n table e f h =
    let same = count_same (λ v. bit_at table (position g (digits g (suc n) v))) (λ v. bit_at table (powers g n + v)) (g ^ suc n)
    (λ v low. rw (digits_position g (suc n) v low)) in
    rw (h, f, e, add-one, same)

-- The lines of the first n lengths stand.
pub record Tabled (g longest : ℕ) (table : List ℕ) (o p : Output) (from n : ℕ) : Type 0 where
  pub place : n ≤ longest
  pub fills : Fills g longest table
  pub room : o.at + 7 * longest ≤ length o.store.now
  pub put : Appends o p (count_lines g (standing g table) n)
  pub begins : from ≡ powers g n
  pub low : p.at ≤ o.at + 7 * n

pub tabled_start : {g longest : ℕ} {table : List ℕ} {o : Output} → Fills g longest table → o.at + 7 * longest ≤ length o.store.now
    → Tabled g longest table o o 0 0
unfolding count_lines powers
tabled_start f h = record { place = omega arith; fills = f; room = h; put = nothing _; begins = refl; low = omega arith }

module _ {g longest : ℕ} {table : List ℕ} {o p : Output} {from n : ℕ} (d : Tabled g longest table o p from n) where
  -- The bits of the next length are in the table ..
  pub tabled_bits : n < longest → {w : ℕ} → w ≡ g ^ (n + 1) → (from + w ≤ 5460) × (5460 ≤ 8 * length table)
  unfolding powers
  tabled_bits h e =
      let low : powers g (suc n) ≤ 5460 = powers_low g (suc n) d.fills.states (omega (arith, d.fills.most)) in
      (omega (arith, rw add-one at e, d.begins), d.fills.bits)

  -- .. there is room for its line ..
  pub tabled_room : n < longest → {c w : ℕ} → c ≤ w → w ≤ full_lines → HasRoom p (pair_line (n + 1) c)
  tabled_room h {c} k l =
      omega (arith, count_short (n + 1) c (omega (arith, d.fills.most)) (omega arith), d.low, d.room, d.put.size)

  -- .. which is put ..
  pub tabled_next : n < longest → {q : Output} {c w : ℕ} → w ≡ g ^ (n + 1) → w ≤ full_lines → c ≤ w
      → c ≡ count_of (λ v. bit_at table (from + v)) w → Appends p q (pair_line (n + 1) c) → Tabled g longest table o q (from + w) (n + 1)
  unfolding powers
  tabled_next h {c = c} e k l f a =
      let short = count_short (n + 1) c (omega (arith, d.fills.most)) (omega arith) in
      record {
        place = omega arith;
        fills = d.fills;
        room = d.room;
        put = rw (next_line g n table d.begins e f) (d.put then a);
        begins = rw (add-one, ← d.begins, ← add-one, ← e);
        low = omega (arith, a.put.ends, d.low);
      }

  -- .. until all lengths are through.
  pub tabled_end : longest ≤ n → Appends o p (count_lines g (standing g table) longest) × (p.at ≤ o.at + 7 * longest)
  tabled_end h = let e : n ≡ longest = omega (arith, d.place) in (rw e at d.put, omega (arith, d.low))
