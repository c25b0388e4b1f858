-- Every count in the table is one that a stretch has: by recursion on how the count followed from the blank table, each
-- edge of a rule being one constructor of stretches, whatever the number of turn ends inside.
use mathlib.Core.List.{List}
use mathlib.Core.Logic.{inl, inr, ⊎_elim}
use mathlib.Core.Path.{◌≡◌, refl, sym, ap, subst, ◌∙◌}
use Prim.Native.Nat.{ℕ, zero, suc, ◌+◌, ◌*◌, ◌-◌, ◌≤◌, ◌<◌, min}
use native.Mathlib.Omega.{arith}
use lib.ListN.{length}
use Rattle.model.specs.declared.Right.{Right}
use Rattle.model.specs.declared.Right.TheVariants.{Remove, Swap, Push}
use Rattle.model.specs.declared.Symbol.{Symbol}
use Rattle.model.specs.declared.Thread.{Thread}
use Rattle.model.specs.Tops.{Top}
use Rattle.model.specs.Rules.{rule_at, held_at}
use Rattle.model.specs.Walk.{Step}
use Rattle.model.proofs.Inside.{applies_iff}
use Rattle.model.specs.Fits.{RightFits, TopFits, ThreadFits}
use Rattle.summary.specs.Sizes.{shape_of, ShapeFits}
use Rattle.summary.specs.Cells.{plain, gone, lane, lane_of, controls_of, free_of, flags_of, first, second, rest, blank}
use Rattle.summary.specs.Cells.{to_of, plain_by, lane_by, cross_by, Second}
use Rattle.summary.specs.Control.{Control, number, numbered, TurnEnd, Moves, Switches, dest, cell_from, InTable, EndInTable, Inside}
use Rattle.summary.specs.Edges.{Edge, From, kept, by, Row}
use Rattle.summary.specs.Stretch.{end_of, End, pop, stay}
use Rattle.summary.specs.Table.{cap, Uses}
use Rattle.summary.proofs.CellNumbers.{start, width, base_of, Offset, lanes_fit, parts}
use Rattle.summary.specs.Kinds.{RulesIn}
use Rattle.summary.proofs.Numbers.{number_at, controls_range, rules_in_lem, shape_fits}
use Rattle.summary.proofs.Reaches.{remove_reach, swap_reach, both_reach, above_reach}
use Rattle.summary.proofs.Meanings.{lane_at, cell_lane, Passes, pop_end, stay_end, Reached}
use Rattle.summary.proofs.Meanings.{Gives, Good, Makes, rows, blank_gives, first_good, second_good, top_good}

-- A destination of a row of stays is one.
below_twelve : (m d size x : ℕ) → d * width m ≤ 4 * width m + x → x < size → size ≤ 8 * width m → d < 12
below_twelve zero d size x h k l = omega arith
below_twelve (suc m) d size x h k l = omega arith

module _ (t : Thread) (top : Top) (N : ℕ) (turn_of : ℕ → ℕ) (ends : ℕ → TurnEnd) (n : ℕ) where
  -- The stretches that a cell stands for have one of at most that many steps, where the count says that there is one.
  abbrev pub Means : ℕ → ℕ → Type 0
  Means k v =
      (c : Control) (γ : ℕ) (d : End Control) → c.passed ≤ (end_of d).passed → InTable N n c → γ ≤ 16 → EndInTable top N n d
      → cell_from N ends ((end_of d).passed - c.passed) c.passed (number c) γ (dest d) ≡ k → v ≤ cap
      → (us : List Step) × Uses (Moves t turn_of) (Switches ends n) c γ d us × (min (length us) cap ≤ v)

module _ (t : Thread) (top : Top) (N : ℕ) (turn_of : ℕ → ℕ) (ends : ℕ → TurnEnd) (n : ℕ) (G : ℕ) (fits : ThreadFits G t) (G4 : G ≤ 4)
    (within : RulesIn N t) (shape : ShapeFits (shape_of top N)) (named : TopFits top) (n2 : n ≤ 2) (small : Inside (free_of N) n ends) where
  -- Stretches and edges of this thread.
  abbrev Stretches : Control → ℕ → End Control → ℕ → Type 0
  Stretches = Reached t top N turn_of ends n

  abbrev Sound : Edge → Type 0
  Sound = Good t top N turn_of ends n

  -- The control after a rule, and its step.
  abbrev after : ℕ → Control → Control
  after r c = record { passed = c.passed; held = held_at t r; shared = (rule_at t r).after.0 }

  abbrev step_of : ℕ → Control → Step
  step_of r c = record { turn = turn_of c.passed; rule = r }

  module _ (r : ℕ) (listed : r < t.count) (f : ℕ) (flag : f < flags_of N) where
    -- The control that the rule acts from, its symbol and the control after it.
    abbrev P₀ : ℕ
    P₀ = 4 * f + (rule_at t r).before.0

    abbrev Γ₀ : ℕ
    Γ₀ = (rule_at t r).symbol.0

    abbrev H₀ : ℕ
    H₀ = to_of t r

    -- A rule makes its step.
    moves : (c : Control) (γ : ℕ) (x : Right) → c.shared < 4 → number c ≡ P₀ → γ ≡ Γ₀ → (rule_at t r).right ≡ x
        → Moves t turn_of c γ (step_of r c) x (after r c)
    moves c γ x l p q e =
        let state = (fits.rules r listed).state in
        record {
          rule = (applies_iff t r c.shared γ).1 (record { listed = listed; state = omega arith; symbol = sym q });
          right = e;
          shared = refl;
          held = refl;
          passed = refl;
          turn = refl;
        }

    -- The symbols of its right side.
    symbols : (x : Right) → (rule_at t r).right ≡ x → RightFits x
    symbols x e = subst RightFits e (fits.rules r listed).symbols

    -- What is left of a stretch after the rule.
    onward : {m a γ : ℕ} {c : Control} {u : End Control} → a ≤ 15 → Passes top N n m c γ u → Passes top N n m (after r c) a u
    onward h s =
        record {
          gap = s.gap;
          last = s.last;
          from = (omega (arith, (fits.rules r listed).next), (within.rules r listed).to);
          symbol = omega arith;
          to = s.to;
          asks = s.asks;
        }

    -- The rows of edges of the rule, with m turn ends inside.
    by_rule_lem : (m d w a b size : ℕ) → m ≤ 2 → d < 16 → size ≤ (16 - d) * width m → Makes t top N turn_of ends n m P₀ Γ₀ d w a b size
        → (e : Edge) → Row w (start N m P₀ Γ₀ d) a b size e → Sound e
    by_rule_lem m d w a b size h i j =
        let rule = fits.rules r listed in
        rows t top N shape.controls turn_of ends n n2 small m P₀ Γ₀ d w a b size
        (λ z k.
        let spot : Offset N m P₀ Γ₀ d z = record { part = h; control = (within.rules r listed).from f flag; symbol = omega (arith, rule.top); dest = i; offset = omega arith } in
        (parts N m P₀ Γ₀ d z spot, λ q. spot))

    -- A removal, where no turn end can be inside.
    remove_good : (rule_at t r).right ≡ Remove → (e : Edge) → Row 1 (plain P₀ Γ₀ (gone H₀)) rest rest 1 e → Sound e
    remove_good eq =
        let next = (fits.rules r listed).next in
        let to = (within.rules r listed).to in
        let most = shape.controls in
        by_rule_lem 0 (gone H₀) 1 rest rest 1 (omega arith) (omega arith) (omega arith)
        (λ x y z k i j p q c γ u s w.
        let end : u ≡ pop (after r c) = pop_end (after r c) u (omega arith) (omega (arith, (w.narrow k).0)) (omega arith, omega arith) s.to in
        rw end (remove_reach (Moves t turn_of) (Switches ends n) (min (1 + x + y) cap) (omega arith) (moves c γ Remove s.from.0 w.control w.symbol eq)))

    -- A swap.
    swap_good : (m size : ℕ) → m ≤ 2 → size ≤ 16 * width m → (a : Symbol) → (rule_at t r).right ≡ Swap a
        → (e : Edge) → Row 1 (start N m P₀ Γ₀ 0) rest (start N m H₀ a.0 0) size e → Sound e
    swap_good m size h few a eq =
        let low : a.0 ≤ 15 = omega (arith, symbols (Swap a) eq) in
        by_rule_lem m 0 1 rest (start N m H₀ a.0 0) size h (omega arith) few
        (λ x y z k i j p q c γ u s w.
        swap_reach (Moves t turn_of) (Switches ends n) (min (1 + x + y) cap) (omega arith)
        (moves c γ (Swap a) s.from.0 w.control w.symbol eq)
        (q m (after r c) a.0 u (onward low s) (w.same H₀ a.0) j))

    -- A push whose first symbol stays.
    above_good : (m size : ℕ) → m ≤ 2 → size ≤ 8 * width m → (a b : Symbol) → (rule_at t r).right ≡ Push a b
        → (e : Edge) → Row 1 (start N m P₀ Γ₀ 4) rest (start N m H₀ a.0 4) size e → Sound e
    above_good m size h few a b eq =
        let low : a.0 ≤ 15 = omega (arith, (symbols (Push a b) eq).0) in
        by_rule_lem m 4 1 rest (start N m H₀ a.0 4) size h (omega arith) (omega arith)
        (λ x y z k i j p q c γ u s w.
        let stays = stay_end u w.low (below_twelve m _ _ _ w.high k few) s.to.0 in
        let end : u ≡ stay stays.0 (end_of u) = stays.1 in
        let part = q m (after r c) a.0 u (onward low s) (w.same H₀ a.0) j in
        subst (λ v. Stretches c γ v (min (1 + x + y) cap)) (sym end)
        (above_reach (Moves t turn_of) (Switches ends n) (min (1 + x + y) cap) (omega arith)
        (moves c γ (Push a b) s.from.0 w.control w.symbol eq) (subst (λ v. Stretches (after r c) a.0 v y) end part)))

    -- A push of both parts, the first with m and the second with o turn ends inside; p have passed in the middle, at control q.
    push_reach : (a b : Symbol) → (rule_at t r).right ≡ Push a b → (q : ℕ) → q < N → (p m o : ℕ) {l k x y v : ℕ}
        → Gives t top N turn_of ends n l x → Gives t top N turn_of ends n k y → x ≤ cap → y ≤ cap → min (1 + x + y) cap ≤ v
        → (c : Control) (γ : ℕ) (u : End Control) {j : ℕ} → Passes top N n j c γ u → number c ≡ P₀ → γ ≡ Γ₀
        → p ≡ c.passed + m → (end_of u).passed ≡ p + o
        → start N m H₀ a.0 (gone q) + lane_at ends m c.passed ≡ l → start N o q b.0 (dest u) + lane_at ends o p ≡ k
        → Stretches c γ u v
    push_reach a b eq q h p m o {v = v} first second i j w c γ u s e e₁ e₂ e₃ e₄ e₅ =
        let mid : Control = numbered p q in
        let is = number_at p q (omega (arith, shape.controls)) in
        let fit = symbols (Push a b) eq in
        let low : mid.shared < 4 = omega arith in
        both_reach (Moves t turn_of) (Switches ends n) {q = mid} v w
        (moves c γ (Push a b) s.from.0 e e₁ eq)
        (first m (after r c) a.0 (pop mid)
        (record {
          gap = e₂;
          last = omega (arith, s.last);
          from = (omega (arith, (fits.rules r listed).next), (within.rules r listed).to);
          symbol = omega (arith, fit.0);
          to = (low, omega (arith, is.0, shape.controls));
          asks = tt;
        }) (rw is.1 e₄) i)
        (second o mid b.0 u (record { gap = e₃; last = s.last; from = (low, omega (arith, is.0)); symbol = omega (arith, fit.1); to = s.to; asks = s.asks }) (rw is.0 e₅) j)

    -- A push whose first part is within the turn.
    late_good : (m size : ℕ) → m ≤ 2 → size ≤ 16 * width m → (a b : Symbol) → (rule_at t r).right ≡ Push a b → (q : ℕ) → q < N
        → (e : Edge) → Row 1 (start N m P₀ Γ₀ 0) (plain H₀ a.0 (gone q)) (start N m q b.0 0) size e → Sound e
    late_good m size h few a b eq q i =
        by_rule_lem m 0 1 (plain H₀ a.0 (gone q)) (start N m q b.0 0) size h (omega arith) few
        (λ x y z k j l first second c γ u s w.
        push_reach a b eq q i c.passed 0 m first second j l (omega arith) c γ u s w.control w.symbol (omega arith) s.gap (omega arith) (w.same q b.0))

    -- A push whose second part is within the turn.
    early_good : (m : ℕ) → m ≤ 2 → (a b : Symbol) → (rule_at t r).right ≡ Push a b → (q : ℕ) → q < N → (d : ℕ) → d < 16
        → (e : Edge) → Row 1 (start N m P₀ Γ₀ d) (plain q b.0 d) (start N m H₀ a.0 (gone q)) (width m) e → Sound e
    early_good m h a b eq q i d o =
        by_rule_lem m d 1 (plain q b.0 d) (start N m H₀ a.0 (gone q)) (width m) h o (lanes_fit m d o)
        (λ x y z k j l second first c γ u s w.
        let same = w.narrow k in
        push_reach a b eq q i (end_of u).passed m 0 first second l j (omega arith) c γ u s w.control w.symbol s.gap (omega arith)
        (ap (λ x. start N m H₀ a.0 (gone q) + x) same.1) (omega arith))

    -- A push with a turn end in each part.
    cross_good : (size : ℕ) → size ≤ 256 → (a b : Symbol) → (rule_at t r).right ≡ Push a b → (q : ℕ) → q < N
        → (e : Edge)
        → Row 1 (lane (second N) P₀ Γ₀ 0) (lane (first N) H₀ a.0 (gone q) + lane_of (ends 0).leave (ends 0).enter) (lane (first N) q b.0 0) size e
        → Sound e
    cross_good size few a b eq q i =
        by_rule_lem 2 0 1 (lane (first N) H₀ a.0 (gone q) + lane_of (ends 0).leave (ends 0).enter) (lane (first N) q b.0 0) size (omega arith) (omega arith) few
        (λ x y z k j l one other c γ u s w.
        let none : c.passed ≡ 0 = omega arith in
        push_reach a b eq q i (suc c.passed) 1 1 one other j l (omega arith) c γ u s w.control w.symbol (omega arith) (omega arith)
        (ap (λ p. lane (first N) H₀ a.0 (gone q) + lane_at ends 1 p) none) (omega (arith, w.same q b.0)))

    -- The edges of the rule within one turn, by its right side.
    plain_good : (x : Right) → (rule_at t r).right ≡ x → (e : Edge) → plain_by (shape_of top N) P₀ Γ₀ H₀ x e → Sound e
    plain_good Remove eq e w = remove_good eq e w
    plain_good (Swap a) eq e w = swap_good 0 _ (omega arith) (omega (arith, shape.dests)) a eq e w
    plain_good (Push a b) eq e (inl w) = late_good 0 _ (omega arith) (omega (arith, shape.dests)) a b eq w.i w.inside e w.at
    plain_good (Push a b) eq e (inr w) = above_good 0 _ (omega arith) (omega (arith, shape.stays)) a b eq e w

    -- Its edges with turn ends in one part.
    lane_good : (m : ℕ) → m ≤ 1 → (x : Right) → (rule_at t r).right ≡ x → (e : Edge) → lane_by (shape_of top N) (base_of N m) P₀ Γ₀ H₀ x e → Sound e
    lane_good m h Remove eq e w = absurd w
    lane_good m h (Swap a) eq e w = swap_good (suc m) _ (omega arith) (omega (arith, shape.dests)) a eq e w
    lane_good m h (Push a b) eq e (inl w) =
        ⊎_elim (late_good (suc m) _ (omega arith) (omega (arith, shape.dests)) a b eq w.i w.inside e)
        (λ v. early_good (suc m) (omega arith) a b eq w.i w.inside v.i (omega (arith, v.inside, shape.dests)) e v.at) w.at
    lane_good m h (Push a b) eq e (inr w) = above_good (suc m) _ (omega arith) (omega (arith, shape.stays)) a b eq e w

    -- Its edges with a turn end in each part.
    across_good : (x : Right) → (rule_at t r).right ≡ x → (e : Edge)
        → cross_by (shape_of top N) (lane_of (ends 0).leave (ends 0).enter) P₀ Γ₀ H₀ x e → Sound e
    across_good Remove eq e w = absurd w
    across_good (Swap a) eq e w = absurd w
    across_good (Push a b) eq e w = cross_good _ (omega (arith, shape.dests)) a b eq w.i w.inside e w.at

  -- Every edge is sound.
  edge_good : (e : Edge) → Second t top N (ends 0).leave (ends 0).enter e → Sound e
  edge_good e (inl (inl (inl w))) = top_good t top N shape.controls turn_of ends n n2 small named e w
  edge_good e (inl (inl (inr w))) = plain_good w.at.i w.at.inside w.i w.inside (rule_at t w.at.i).right refl e w.at.at
  edge_good e (inl (inr (inl w))) = first_good t top N shape.controls turn_of ends n n2 small (shape_of top N) refl shape.dests e w
  edge_good e (inl (inr (inr w))) =
      lane_good w.at.i w.at.inside w.i w.inside 0 (omega arith) (rule_at t w.at.i).right refl e w.at.at
  edge_good e (inr (inl w)) = second_good t top N shape.controls turn_of ends n n2 small _ shape.dests e w
  edge_good e (inr (inr (inl w))) = across_good w.at.i w.at.inside w.i w.inside (rule_at t w.at.i).right refl e w.at.at
  edge_good e (inr (inr (inr w))) =
      lane_good w.at.i w.at.inside w.i w.inside 1 (omega arith) (rule_at t w.at.i).right refl e w.at.at

  -- So is every count that follows.
  gives : {k v : ℕ} → From (Second t top N (ends 0).leave (ends 0).enter) (blank N) k v → Gives t top N turn_of ends n k v
  gives (kept k) = blank_gives t top N shape.controls turn_of ends n n2 small k
  gives (by {x} {y} e w p q i j) = edge_good e w x y i j (gives p) (gives q)

-- Every count that follows from the blank table by the edges of a thread is that of a stretch.
pub sound : (t : Thread) (top : Top) (G : ℕ) (turn_of : ℕ → ℕ) (ends : ℕ → TurnEnd) (n : ℕ) → ThreadFits G t → TopFits top → 1 ≤ G → G ≤ 4
    → n ≤ 2 → Inside G n ends
    → {k v : ℕ} → From (Second t top (controls_of t G) (ends 0).leave (ends 0).enter) (blank (controls_of t G)) k v
    → Means t top (controls_of t G) turn_of ends n k v
sound t top G turn_of ends n fits named some four n2 inside f c γ d p i j o e =
    let N : ℕ = controls_of t G in
    let range = controls_range t G in
    let m = (end_of d).passed - c.passed in
    gives t top N turn_of ends n G fits four (rules_in_lem four fits) (shape_fits top N (omega arith) (omega arith)) named n2
    (λ j l. let z = inside j l in (omega arith, omega arith)) f m c γ d
    (record { gap = omega arith; last = o.0.passed; from = (i.shared, i.number); symbol = j; to = (o.0.shared, omega (arith, o.0.number)); asks = o.1 })
    (cell_lane N ends m c.passed (number c) γ (dest d) ∙ e)
