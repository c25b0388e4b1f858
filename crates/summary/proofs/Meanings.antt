-- Cells and the stretches that they stand for: a cell determines how many turn ends are inside, and from which control and
-- symbol its stretches start; so the blank table and the edges of turn ends give what they promise.
use mathlib.Core.Bool.{false}
use mathlib.Core.Path.{◌≡◌, refl, sym, ap, subst, ◌∙◌}
use Prim.Native.Nat.{ℕ, zero, suc, ◌+◌, ◌*◌, ◌≤◌, ◌<◌, min}
use native.Mathlib.Nat.{add-zero, le_trans}
use native.Mathlib.Omega.{arith}
use Rattle.model.specs.declared.Symbol.{Symbol}
use Rattle.model.specs.declared.Thread.{Thread}
use Rattle.model.specs.Tops.{Top}
use Rattle.std.specs.Prelude.{None, Some}
use Rattle.model.specs.Fits.{TopFits}
use Rattle.model.proofs.Tests.{equal}
use Rattle.summary.specs.Sizes.{Sizes}
use Rattle.summary.specs.Cells.{plain, lane, lane_of, free_of, first, second, rest, blank, TopEdges, FirstEnds}
use Rattle.summary.specs.Control.{Control, number, TurnEnd, Moves, Switches, dest, cell_from, Known, named, Stays, Inside}
use Rattle.summary.specs.Edges.{Edge, Row, Below}
use Rattle.summary.specs.Stretch.{end_of, End, pop, stay, Asks}
use Rattle.summary.specs.Table.{cap}
use Rattle.summary.proofs.CellNumbers.{start, width, Offset, lanes_fit, part_of, parts}
use Rattle.summary.proofs.CellNumbers.{first_part, last_part, Alike, alike, blank_cell, blank_dest}
use Rattle.summary.proofs.Numbers.{flag_clear, control_eq}
use Rattle.summary.proofs.Reaches.{Reach, here_reach, change_reach}

-- The lane of the last turn end inside, of m after p have passed.
abbrev pub lane_at : (ℕ → TurnEnd) → ℕ → ℕ → ℕ
lane_at ends zero p = 0
lane_at ends (suc zero) p = lane_of (ends p).leave (ends p).enter
lane_at ends (suc (suc m)) p = lane_of (ends (suc p)).leave (ends (suc p)).enter

-- A cell is its first lane and its lane.
pub cell_lane : (N : ℕ) (ends : ℕ → TurnEnd) (m j p γ d : ℕ) → start N m p γ d + lane_at ends m j ≡ cell_from N ends m j p γ d
cell_lane N ends zero j p γ d = add-zero (plain p γ d)
cell_lane N ends (suc zero) j p γ d = refl
cell_lane N ends (suc (suc m)) j p γ d = refl

-- A stretch with m turn ends inside, within the n that there are, between controls of a table of N for a top.
pub record Passes (top : Top) (N n m : ℕ) (c : Control) (γ : ℕ) (d : End Control) : Type 0 where
  pub gap : (end_of d).passed ≡ c.passed + m
  pub last : (end_of d).passed ≤ n
  pub from : (c.shared < 4) × (number c < N)
  pub symbol : γ ≤ 16
  pub to : ((end_of d).shared < 4) × (number (end_of d) < 8)
  pub asks : Asks (Stays top) d

-- Destinations are below 16.
dest_lt : (d : End Control) → ((end_of d).shared < 4) × (number (end_of d) < 8) → dest d < 16
dest_lt (pop c) h = omega arith
dest_lt (stay None c) h = omega arith
dest_lt (stay (Some s) c) h = omega arith

-- The end at the destination of a pop.
pub pop_end : (c : Control) (u : End Control) → (end_of u).passed ≡ c.passed → dest u ≡ dest (pop c) → (c.shared < 4) × (number c < 8)
    → ((end_of u).shared < 4) × (number (end_of u) < 8) → u ≡ pop c
pop_end c (pop d) p q h k = ap pop (control_eq d c p (omega arith) (omega arith))
pop_end c (stay None d) p q h k = absurd (omega arith)
pop_end c (stay (Some s) d) p q h k = absurd (omega arith)

-- A destination of 4 or more and below 12 is a stay.
pub stay_end : (u : End Control) → 4 ≤ dest u → dest u < 12 → (end_of u).shared < 4 → (top : Top) × (u ≡ stay top (end_of u))
stay_end (pop c) p q h = absurd (omega arith)
stay_end (stay top c) p q h = (top, refl)

-- The name of a named top that is known.
known_name : (s r : Symbol) → Known (Some s) (Some r) → r ≡ s
known_name s r named = refl

-- The end at the destination of staying in place ..
here_end : (top : Top) (c : Control) (u : End Control) → Asks (Stays top) u → (end_of u).passed ≡ c.passed → dest u ≡ 4 + number c
    → number c < 4 → ((end_of u).shared < 4) × (number (end_of u) < 8) → u ≡ stay None c
here_end top c (pop d) a p q h k = absurd (omega arith)
here_end top c (stay None d) a p q h k = ap (stay None) (control_eq d c p (rw a.free (omega arith)) (omega arith))
here_end top c (stay (Some s) d) a p q h k = absurd (omega arith)

-- .. and of staying there under the named top.
named_end : (s : Symbol) (c : Control) (u : End Control) → Asks (Stays (Some s)) u → (end_of u).passed ≡ c.passed
    → dest u ≡ 8 + number c → number c < 4 → ((end_of u).shared < 4) × (number (end_of u) < 8) → u ≡ stay (Some s) c
named_end s c (pop d) a p q h k = absurd (omega arith)
named_end s c (stay None d) a p q h k = absurd (omega arith)
named_end s c (stay (Some r) d) a p q h k =
    rw (known_name s r a.known) (ap (stay (Some s)) (control_eq d c p (rw a.free (omega arith)) (omega arith)))

module _ (t : Thread) (top : Top) (N : ℕ) (turn_of : ℕ → ℕ) (ends : ℕ → TurnEnd) (n : ℕ) where
  -- A count of stretches of this thread.
  abbrev pub Reached : Control → ℕ → End Control → ℕ → Type 0
  Reached = Reach (Moves t turn_of) (Switches ends n)

  -- `Means` by the number of turn ends inside.
  abbrev pub Gives : ℕ → ℕ → Type 0
  Gives k v =
      (m : ℕ) (c : Control) (γ : ℕ) (d : End Control) → Passes top N n m c γ d
      → start N m (number c) γ (dest d) + lane_at ends m c.passed ≡ k → v ≤ cap → Reached c γ d v

  -- An edge gives what its parts give.
  abbrev pub Good : Edge → Type 0
  Good e = (x y : ℕ) → x ≤ cap → y ≤ cap → Gives e.a x → Gives e.b y → Gives e.to (min (e.w + x + y) cap)

  -- What a row of edges has to give, once the cell is known.
  abbrev pub Makes : ℕ → ℕ → ℕ → ℕ → ℕ → ℕ → ℕ → ℕ → Type 0
  Makes m p γ d w a b size =
      (x y z : ℕ) → z < size → x ≤ cap → y ≤ cap → Gives a x → Gives (b + z) y
      → (c : Control) (γ₀ : ℕ) (u : End Control) → Passes top N n m c γ₀ u
      → Alike N m (number c) γ₀ (dest u) (lane_at ends m c.passed) p γ d z → Reached c γ₀ u (min (w + x + y) cap)

module _ (t : Thread) (top : Top) (N : ℕ) (N8 : N ≤ 8) (turn_of : ℕ → ℕ) (ends : ℕ → TurnEnd) (n : ℕ) (n2 : n ≤ 2)
    (small : Inside (free_of N) n ends) where
  -- A lane is below the lanes of its part.
  lane_lt : (m p : ℕ) → p + m ≤ n → lane_at ends m p < width m
  lane_lt zero p h = omega arith
  lane_lt (suc zero) p h = omega (arith, small p (omega arith))
  lane_lt (suc (suc m)) p h = omega (arith, small (suc p) (omega arith))

  -- The cell of a stretch.
  spans : (m : ℕ) (c : Control) (γ : ℕ) (d : End Control) → Passes top N n m c γ d
      → Offset N m (number c) γ (dest d) (lane_at ends m c.passed)
  spans m c γ d s =
      let p = dest_lt d s.to in
      record { part = omega arith; control = s.from.1; symbol = s.symbol; dest = p; offset = le_trans (lane_lt m c.passed (omega arith)) (lanes_fit m (dest d) p) }

  -- A cell of a known part has stretches with that many turn ends inside.
  settle : (m k v : ℕ) → part_of N k ≡ m
      → ((c : Control) (γ : ℕ) (d : End Control) → Passes top N n m c γ d → start N m (number c) γ (dest d) + lane_at ends m c.passed ≡ k → v ≤ cap → Reached t top N turn_of ends n c γ d v)
      → Gives t top N turn_of ends n k v
  settle m k v h f m' c γ d s e =
      let same : m ≡ m' = sym h ∙ ap (part_of N) (sym e) ∙ parts N m' (number c) γ (dest d) (lane_at ends m' c.passed) (spans m' c γ d s) in
      subst (λ m. Passes top N n m c γ d → start N m (number c) γ (dest d) + lane_at ends m c.passed ≡ k → v ≤ cap → Reached t top N turn_of ends n c γ d v) same (f c γ d) s e

  -- A cell at an offset of a known one has stretches from that control and symbol.
  found : (m p γ d x v : ℕ) → part_of N (start N m p γ d + x) ≡ m → (m ≤ n → Offset N m p γ d x)
      → ((c : Control) (γ₀ : ℕ) (u : End Control) → Passes top N n m c γ₀ u
      → Alike N m (number c) γ₀ (dest u) (lane_at ends m c.passed) p γ d x → Reached t top N turn_of ends n c γ₀ u v)
      → Gives t top N turn_of ends n (start N m p γ d + x) v
  found m p γ d x v q h f =
      settle m (start N m p γ d + x) v q
      (λ c γ₀ u s e i. f c γ₀ u s (alike N m (number c) γ₀ (dest u) (lane_at ends m c.passed) p γ d x (spans m c γ₀ u s) (lane_lt m c.passed (omega arith)) (h (omega arith)) e))

  -- A row of edges at a known cell.
  pub rows : (m p γ d w a b size : ℕ) → ((z : ℕ) → z < size → (part_of N (start N m p γ d + z) ≡ m) × (m ≤ n → Offset N m p γ d z))
      → Makes t top N turn_of ends n m p γ d w a b size → (e : Edge) → Row w (start N m p γ d) a b size e → Good t top N turn_of ends n e
  rows m p γ d w a b size h f e row =
      let z = row.x in
      let k = row.inside in
      subst (Good t top N turn_of ends n) (sym row.is) (λ x y i j q r. found m p γ d z (min (w + x + y) cap) (h z k).0 (h z k).1 (f x y z k i j q r))

  -- The blank table: staying in place.
  pub blank_gives : (k : ℕ) → Gives t top N turn_of ends n k (blank N k)
  blank_gives k m c γ d s e h =
      let low = (blank_cell N k h).0 in
      settle 0 k (blank N k) (first_part N k (omega arith))
      (λ c γ d s e h.
      let b : dest d ≡ 4 + number c = blank_dest (number c) γ (dest d) k s.symbol (dest_lt d s.to) (omega arith) (blank_cell N k h).1 in
      let end : d ≡ stay None c = here_end top c d s.asks (omega arith) b (omega arith) s.to in
      subst (λ u. Reached t top N turn_of ends n c γ u (blank N k)) (sym end) (here_reach (Moves t turn_of) (Switches ends n) None c γ (blank N k) tt))
      m c γ d s e h

  -- A change of turn, from a control that no held step has led to.
  switch : (c : Control) (γ : ℕ) (u : End Control) (m i y : ℕ) → Passes top N n (suc m) c γ u → number c ≡ (ends c.passed).leave
      → i ≡ (ends c.passed).enter → i < free_of N → (k : ℕ) → Gives t top N turn_of ends n k y → y ≤ cap
      → start N m i γ (dest u) + lane_at ends m (suc c.passed) ≡ k → (v : ℕ) → min y cap ≤ v → Reached t top N turn_of ends n c γ u v
  switch c γ u m i y s p q h k f l e v o =
      let c₁ : Control = record { passed = suc c.passed; held = false; shared = i } in
      let left = small c.passed (omega arith) in
      let same : number c₁ ≡ i = omega arith in
      change_reach (Moves t turn_of) (Switches ends n) {c₁ = c₁} v o
      (record { more = omega arith; free = flag_clear c.held (omega arith); leave = omega arith; enter = q; fresh = refl; passed = refl })
      (f m c₁ γ u (record { gap = omega arith; last = s.last; from = (omega arith, omega arith); symbol = s.symbol; to = s.to; asks = s.asks }) (rw same e) l)

  -- The edges of one turn end.
  pub first_good : (sh : Sizes) → sh.controls ≡ N → sh.dests ≤ 16 → (e : Edge) → FirstEnds sh e → Good t top N turn_of ends n e
  first_good sh same-N few e b =
      let o = b.i in
      let i = b.at.i in
      let γ = b.at.at.i in
      let d = b.at.at.at.i in
      let row = b.at.at.at.at in
      let z : row.x ≡ 0 = omega (arith, row.inside) in
      let spot : Offset N 1 o γ d (lane_of o i) =
      record {
        part = omega arith;
        control = omega (arith, b.inside);
        symbol = omega (arith, b.at.at.inside);
        dest = omega (arith, b.at.at.at.inside);
        offset = omega (arith, b.inside, b.at.inside, b.at.at.at.inside);
      } in
      let at : start N 1 o γ d + lane_of o i ≡ lane (first sh.controls) o γ d + lane_of o i + row.x = omega arith in
      subst (Good t top N turn_of ends n) (sym row.is)
      (λ x y k j f g.
      subst (λ k. Gives t top N turn_of ends n k (min (0 + x + y) cap)) at
      (found 1 o γ d (lane_of o i) (min (0 + x + y) cap) (parts N 1 o γ d (lane_of o i) spot) (λ h. spot)
      (λ c γ₀ u s w.
      let ends_small = small c.passed (omega arith) in
      let both = w.narrow (omega (arith, b.inside, b.at.inside)) in
      switch c γ₀ u 0 i y s (omega (arith, b.inside, b.at.inside)) (omega (arith, b.inside, b.at.inside)) (omega (arith, b.at.inside)) (plain i γ d + row.x) g j (omega arith)
      (min (0 + x + y) cap) (omega arith))))

  -- The edges of a turn end before another.
  pub second_good : (ds : ℕ) → ds ≤ 16 → (e : Edge)
      → Below 17 (λ γ. Row 0 (lane (second N) (ends 0).leave γ 0) rest (lane (first N) (ends 0).enter γ 0) (ds * 16)) e
      → Good t top N turn_of ends n e
  second_good ds few e b =
      let γ = b.i in
      rows 2 (ends 0).leave γ 0 0 rest (lane (first N) (ends 0).enter γ 0) (ds * 16)
      (λ z k. (
        last_part N (lane (second N) (ends 0).leave γ 0 + z) (omega arith),
        λ h. record { part = omega arith; control = omega (arith, (small 0 (omega arith)).0); symbol = omega (arith, b.inside); dest = omega arith; offset = omega arith },
      ))
      (λ x y z k i j f g c γ₀ u s w.
      let p : 0 ≡ c.passed = omega arith in
      switch c γ₀ u 1 (ends 0).enter y s (w.control ∙ ap (λ p. (ends p).leave) p) (ap (λ p. (ends p).enter) p) (small 0 (omega arith)).1
      (lane (first N) (ends 0).enter γ 0 + z) g j (omega (arith, w.same (ends 0).enter γ)) (min (0 + x + y) cap) (omega arith))
      e b.at

-- The edges of the named top: to stay under it takes no step.
pub top_good : (t : Thread) (top : Top) (N : ℕ) (N8 : N ≤ 8) (turn_of : ℕ → ℕ) (ends : ℕ → TurnEnd) (n : ℕ) (n2 : n ≤ 2)
    (small : Inside (free_of N) n ends) → TopFits top → (e : Edge) → TopEdges top N e → Good t top N turn_of ends n e
top_good t None N N8 turn_of ends n n2 small fits e w = absurd w
top_good t (Some s) N N8 turn_of ends n n2 small fits e w =
    let q = w.i in
    let low : q < 4 = omega (arith, w.inside) in
    let spot : (z : ℕ) → z < 1 → Offset N 0 q s.0 (8 + q) z = λ z k. record { part = omega arith; control = omega (arith, w.inside); symbol = omega arith; dest = omega arith; offset = omega arith } in
    rows t (Some s) N N8 turn_of ends n n2 small 0 q s.0 (8 + q) 0 rest rest 1
    (λ z k. (parts N 0 q s.0 (8 + q) z (spot z k), λ h. spot z k))
    (λ x y z k i j f g c γ u p a.
    let end : u ≡ stay (Some s) c = named_end s c u p.asks (omega arith) (omega (arith, (a.narrow k).0, a.control)) (omega (arith, a.control)) p.to in
    subst (λ v. Reached t (Some s) N turn_of ends n c γ v (min (0 + x + y) cap)) (sym end)
    (here_reach (Moves t turn_of) (Switches ends n) (Some s) c γ (min (0 + x + y) cap) ((equal γ s.0).1 a.symbol)))
    e w.at
