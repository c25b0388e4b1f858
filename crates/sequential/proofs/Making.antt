-- The rules that are made are those of the list: at a state that is held a copy replaced is a copy of the state replaced.
use mathlib.Core.Bool.{and-false}
use mathlib.Core.List.{List, [], ◌∷◌, map}
use mathlib.Core.Path.{◌≡◌, refl, sym, ap, ◌∙◌}
use Prim.Native.Nat.{ℕ, zero, suc, ◌+◌, ◌-◌, ◌≤◌, ◌<◌, pred}
use native.Mathlib.Numerals.{add-one, sub-one}
use native.Mathlib.Omega.{arith}
use lib.ListN.{get_or, set, take}
use borrow.Author.Tests.{eq-eqb, ne_eqb, le-leb, lt-leb}
use Rattle.model.specs.declared.Right.{Right}
use Rattle.model.specs.declared.Right.TheVariants.{Remove, Swap, Push}
use Rattle.model.specs.declared.Rule.{Rule}
use Rattle.model.specs.declared.Thread.{Thread}
use Rattle.model.specs.declared.ThreadId.{ThreadId}
use Rattle.model.specs.Fits.{RightFits, RightBelow}
use Rattle.model.specs.Rules.{put}
use Rattle.sequential.specs.Allowed.{symbol_of, closing, at, copy, with_copy}
use Rattle.sequential.specs.Listed.{act_of, pass_of, begin_of, close_of, holder_of}
use Rattle.sequential.specs.Parts.{right_of}
use Rattle.sequential.specs.System.{State}
use Rattle.sequential.specs.Text.{rule_text, text_of}
use Rattle.sequential.proofs.Counting.{text_one}
use Rattle.sequential.proofs.OneTop.{symbols_below}

-- Among the first of a list: what stands at a place, and the list with another there.
get_take : (k : ℕ) (l : List ℕ) (i : ℕ) → i < k → get_or (take k l) i 0 ≡ get_or l i 0
get_take zero l i h = absurd (omega arith)
get_take (suc k) [] i h = refl
get_take (suc k) (x ∷ l) zero h = refl
get_take (suc k) (x ∷ l) (suc i) h = get_take k l i (omega arith)

set_take : (k : ℕ) (l : List ℕ) (i x : ℕ) → i < k → set (take k l) i x ≡ take k (set l i x)
set_take zero l i x h = absurd (omega arith)
set_take (suc k) [] i x h = refl
set_take (suc k) (y ∷ l) zero x h = refl
set_take (suc k) (y ∷ l) (suc i) x h = ap (λ (t : List ℕ). y ∷ t) (set_take k l i x (omega arith))

module _ (s : State) (top : ℕ) where
  -- The rule that passes the turn on.
  pub pass_none : 33 < top → text_of (pass_of s top) ≡ []
  unfolding pass_of text_of
  pass_none h = rw (lt-leb top 33 h)

  pub pass_one : top ≤ 33
      → text_of (pass_of s top) ≡ rule_text (record { state = s; top = top; next = at (s.counter + 1) s.copies; new = top ∷ [] })
  unfolding pass_of
  pass_one h = rw (le-leb top 33 h, add-one) (text_one _)

  -- The rule after all turns of a thread.
  pub close_none : 33 < top → text_of (close_of s top) ≡ []
  unfolding close_of text_of
  close_none h = rw (lt-leb top 33 h)

  pub close_one : {over : ℕ} → top ≤ 33 → over ≡ closing (holder_of top)
      → text_of (close_of s top) ≡ rule_text (record { state = s; top = top; next = at 1 s.copies; new = over ∷ top ∷ [] })
  unfolding close_of
  close_one h e = rw (le-leb top 33 h, e) (text_one _)

  -- The rule by which B begins.
  pub begin_none : (b : Thread) → (s.counter ≡ 1 → ⊥) → text_of (begin_of b s top) ≡ []
  unfolding begin_of text_of
  begin_none b h = rw (ne_eqb _ _ h)

  pub begin_other : (b : Thread) → (top ≡ 35 → ⊥) → text_of (begin_of b s top) ≡ []
  unfolding begin_of text_of
  begin_other b h = rw (ne_eqb top 35 h, and-false)

  pub begin_one : (b : Thread) → s.counter ≡ 1 → top ≡ 35
      → text_of (begin_of b s top) ≡ rule_text (record { state = s; top = top; next = s; new = (16 + b.first.0) ∷ 33 ∷ [] })
  unfolding begin_of
  begin_one b h e = rw (eq-eqb _ _ h, eq-eqb _ _ e) (text_one _)

-- New symbols in the one stack are at most 31.
pub right_low : (id : ThreadId) (x : Right) → RightFits x → RightBelow 36 (right_of id x)
right_low id Remove h = tt
right_low id (Swap a) h = let low = symbols_below id {s = a.0} (omega arith) in omega arith
right_low id (Push a b) h =
    let first = symbols_below id {s = a.0} (omega (arith, h.0)) in
    let second = symbols_below id {s = b.0} (omega (arith, h.1)) in
    (omega arith, omega arith)

-- New symbols one by one.
pub right_symbols : (id : ThreadId) (x : Right) → map (symbol_of id) (put x []) ≡ put (right_of id x) []
right_symbols id Remove = refl
right_symbols id (Swap a) = refl
right_symbols id (Push a b) = refl

-- The copy that a thread's rules act on is that of the counter's round ..
copy_at : (k c : ℕ) (l : List ℕ) → 1 ≤ c → c ≤ k → copy (at c (take k l)) ≡ get_or l (c - 1) 0
copy_at k c l h j = rw sub-one (go c h j)
  where
    go : (c : ℕ) → 1 ≤ c → c ≤ k → get_or (take k l) (pred c) 0 ≡ get_or l (pred c) 0
    go zero h j = absurd (omega arith)
    go (suc c) h j = get_take k l c (omega arith)

-- .. and another one is another there.
copied : (k c : ℕ) (l : List ℕ) (x : ℕ) → 1 ≤ c → c ≤ k → with_copy (at c (take k l)) x ≡ at c (take k (set l (c - 1) x))
copied k c l x h j = rw sub-one (ap (at c) (go c h j))
  where
    go : (c : ℕ) → 1 ≤ c → c ≤ k → set (take k l) (pred c) x ≡ take k (set l (pred c) x)
    go zero h j = absurd (omega arith)
    go (suc c) h j = set_take k l c x (omega arith)

module _ (k c : ℕ) (l : List ℕ) (top : ℕ) (r : Rule) (id : ThreadId) (low : 1 ≤ c) (turn : c ≤ k) where
  -- A rule of a thread.
  pub act_none : (r.before.0 ≡ get_or l (c - 1) 0 → ⊥) → text_of (act_of r id (at c (take k l)) top) ≡ []
  unfolding act_of text_of
  act_none h = rw (copy_at k c l low turn, ne_eqb _ _ h)

  pub act_other : (symbol_of id r.symbol.0 ≡ top → ⊥) → text_of (act_of r id (at c (take k l)) top) ≡ []
  unfolding act_of text_of
  act_other h = rw (ne_eqb (symbol_of id r.symbol.0) top h, and-false)

  pub act_one : r.before.0 ≡ get_or l (c - 1) 0 → symbol_of id r.symbol.0 ≡ top
      → text_of (act_of r id (at c (take k l)) top) ≡
      rule_text (record {
        state = at c (take k l);
        top = top;
        next = at c (take k (set l (c - 1) r.after.0));
        new = put (right_of id r.right) [];
      })
  unfolding act_of
  act_one h e =
      let same = h ∙ sym (copy_at k c l low turn) in
      rw (eq-eqb _ _ same, eq-eqb _ _ e, copied k c l r.after.0 low turn, right_symbols id r.right) (text_one _)
