-- The rules at one state ascend: by their tops, and at one top a thread's rules as their keys do; the pass comes behind them, since its
-- next state has the greater counter.
use mathlib.Core.List.{[], ◌∷◌, ◌++◌, map}
use mathlib.Core.Logic.{inl, inr, ⊎_elim}
use mathlib.Core.Path.{◌≡◌, refl, ap, sym, ◌∙◌, subst}
use Prim.Native.Nat.{ℕ, suc, ◌<◌, ◌≤◌, pred}
use native.Mathlib.Omega.{arith}
use lib.Dec.{T, leb, lt→ltb}
use lib.ListN.{length, set, length-map, length-set}
use borrow.Author.Tests.{leb-true}
use Rattle.model.proofs.Keys.{key_order}
use Rattle.model.proofs.Sets.{thread_rises}
use Rattle.model.specs.declared.Model.{Model}
use Rattle.model.specs.declared.Right.{Right}
use Rattle.model.specs.declared.Right.TheVariants.{Remove, Swap, Push}
use Rattle.model.specs.declared.Rule.{Rule}
use Rattle.model.specs.declared.ThreadId.{ThreadId}
use Rattle.model.specs.declared.ThreadId.TheVariants.{A, B}
use Rattle.model.specs.Fits.{Fits}
use Rattle.model.specs.Lines.{States}
use Rattle.model.specs.Order as rule
use Rattle.model.specs.Order.{new_of, precedes}
use Rattle.model.specs.Rules.{rule_at, put}
use Rattle.model.specs.Walk.{thread_of}
use Rattle.model.proofs.Inside.{fits_of}
use Rattle.sequential.specs.Allowed.{symbol_of, closing, at, with_copy, StateOf}
use Rattle.sequential.specs.Listed.{Member, taker_of, act_of, acts_of, pass_of, begin_of, close_of, taken_at}
use Rattle.sequential.specs.Listed.{rules_at, rules_of, number_of, Ascends}
use Rattle.sequential.specs.System.{State, StackRule}
use Rattle.sequential.proofs.Belows.{member_append, member_below, Before, ascends_cond, ascends_append, ascends_below}
use Rattle.sequential.proofs.Members.{act_rule, pass_rule, act_alone, pass_alone, close_alone, begin_alone}
use Rattle.sequential.proofs.Members.{member_act, member_acts, member_pass, member_begin}
use Rattle.sequential.proofs.Numbers.{widen, set_states, lower_in, counter_lower, copies_lower}
use Rattle.sequential.proofs.Orders.{first_decides, rest_decides, map_keeps}
use Rattle.sequential.proofs.OneTop.{symbols_below, at_one}

module _ (r q : StackRule) where
  -- A rule comes before another by its state ..
  pub by_state : number_of r.state < number_of q.state → Before r q
  by_state h = (first_decides _ _ _ _).1 (inl h)

  -- .. at one state by its top ..
  by_top : r.state ≡ q.state → r.top < q.top → Before r q
  by_top state h = (rest_decides _ _ _ _ (ap number_of state)).1 ((first_decides _ _ _ _).1 (inl h))

  -- .. and at one top by what comes behind.
  by_rest : r.state ≡ q.state → r.top ≡ q.top
      → T (precedes (number_of r.next ∷ length r.new ∷ r.new) (number_of q.next ∷ length q.new ∷ q.new)) → Before r q
  by_rest state top h = (rest_decides _ _ _ _ (ap number_of state)).1 ((rest_decides _ _ _ _ top).1 h)

-- A thread's symbols rise in the one stack.
symbols_rise : (id : ThreadId) (x y : ℕ) → x < y → symbol_of id x < symbol_of id y
symbols_rise A x y h = h
symbols_rise B x y h = omega arith

-- So no two of them become the same.
one_symbol : (id : ThreadId) (x y : ℕ) → symbol_of id x ≡ symbol_of id y → x ≡ y
one_symbol A x y e = e
one_symbol B x y e = omega arith

-- What right sides are ordered by is the number of their symbols, and these.
new_is : (x : Right) → new_of x ≡ length (put x []) ∷ put x []
new_is Remove = refl
new_is (Swap a) = refl
new_is (Push a b) = refl

-- Right sides keep their order in the one stack.
new_keeps : (id : ThreadId) (x y : Right) → T (precedes (new_of x) (new_of y))
    → T (precedes (length (map (symbol_of id) (put x [])) ∷ map (symbol_of id) (put x []))
    (length (map (symbol_of id) (put y [])) ∷ map (symbol_of id) (put y [])))
new_keeps id x y h =
    simp length-map
    ((first_decides _ _ _ _).1
    (⊎_elim inl (λ e. inr (e.0, map_keeps (symbol_of id) (symbols_rise id) (put x []) (put y []) e.1))
    ((first_decides _ _ _ _).0 (rw (new_is x, new_is y) at h))))

module _ (m : Model) (f : Fits m) (s : State) (h : StateOf m s) where
  -- The copies are digits in base ten.
  pub low_copies : States 10 s.copies
  low_copies = widen s.copies (omega (arith, f.g.1)) h.below

  -- Up to counter K a lower state for the copy that is acted on gives a lower number ..
  lower_copy : s.counter ≤ m.k → (p q : ℕ) → p < q → number_of (with_copy s p) < number_of (with_copy s q)
  lower_copy turn p q l =
      let i = pred s.counter in
      let xs = s.copies in
      copies_lower (set xs i p) (set xs i q) (length-set xs i p ∙ sym (length-set xs i q)) s.counter
      (lower_in 10 p q xs i l (omega (arith, h.low, h.count)) low_copies)

  -- .. and a greater counter gives a number greater than all of these.
  greater_counter : (q : ℕ) → q < m.g → number_of (with_copy s q) < number_of (at (suc s.counter) s.copies)
  greater_counter q l =
      let i = pred s.counter in
      let xs = s.copies in
      counter_lower (set xs i q) xs (length-set xs i q) s.counter (suc s.counter)
      (set_states xs i (omega (arith, f.g.1)) low_copies) (omega arith)

  module _ (turn : s.counter ≤ m.k) (top : ℕ) (id : ThreadId) where
    -- Rules that take the same top at the same state make rules in their own order ..
    acts_keep : (x y : Rule) → T (precedes (rule.ordered_by x) (rule.ordered_by y)) → x.before.0 ≡ y.before.0
        → symbol_of id x.symbol.0 ≡ symbol_of id y.symbol.0 → Before (act_rule x id s top) (act_rule y id s top)
    acts_keep x y o before symbol =
        let rest = (rest_decides _ _ _ _ (one_symbol id _ _ symbol)).0 ((rest_decides _ _ _ _ before).0 o) in
        by_rest (act_rule x id s top) (act_rule y id s top) refl refl
        ((first_decides _ _ _ _).1
        (⊎_elim (λ l. inl (lower_copy turn x.after.0 y.after.0 l))
        (λ e. inr (ap (λ q. number_of (with_copy s q)) e.0, new_keeps id x.right y.right e.1))
        ((first_decides _ _ _ _).0 rest)))

    -- .. so those of a thread ascend as its keys do.
    acts_ascend : Ascends (taken_at m id s top)
    unfolding acts_of
    acts_ascend =
        let t = thread_of id m in
        let fits = fits_of f id in
        ascends_below (λ i. act_of (rule_at t i) id s top) t.count (λ i k. act_alone s top (rule_at t i) id) λ i j l k r q p o.
        let x = (member_act s top r (rule_at t i) id).0 p in
        let y = (member_act s top q (rule_at t j) id).0 o in
        let keys = thread_rises t fits i j l k in
        let order = key_order m.g (rule_at t i) (rule_at t j) (omega (arith, f.g.1)) (fits.rules i (omega arith)) (fits.rules j k) in
        rw (x.2, y.2)
        (acts_keep (rule_at t i) (rule_at t j) (subst T order (lt→ltb _ _ keys)) (x.0 ∙ sym y.0) (x.1 ∙ sym y.1))

    -- The pass comes behind them, as its next state has the greater counter ..
    pass_behind : (r q : StackRule) → Member r (taken_at m id s top) → Member q (pass_of s top) → Before r q
    pass_behind r q p o =
        let x = (member_acts s top r (thread_of id m) id).0 p in
        let rule = rule_at (thread_of id m) x.0 in
        let next = greater_counter rule.after.0 ((fits_of f id).rules x.0 x.1).next in
        rw (x.4, ((member_pass s top q).0 o).1)
        (by_rest (act_rule rule id s top) (pass_rule s top) refl refl ((first_decides _ _ _ _).1 (inl next)))

    -- .. and B's begin stands where there is none of them.
    not_with_begin : (r : StackRule) → Member r (taken_at m id s top ++ pass_of s top) → top ≡ closing A → ⊥
    not_with_begin r p e =
        ⊎_elim
        (λ o.
        let x = (member_acts s top r (thread_of id m) id).0 o in
        omega (arith, x.3, symbols_below id ((fits_of f id).rules x.0 x.1).top))
        (λ o. omega (arith, ((member_pass s top r).0 o).0))
        ((member_append r (taken_at m id s top) (pass_of s top)).0 p)

    -- So up to counter K the rules at a top ascend ..
    early_ascend : Ascends (taken_at m id s top ++ pass_of s top ++ begin_of m.b s top)
    early_ascend =
        let first = ascends_append (taken_at m id s top) (pass_of s top) acts_ascend (pass_alone s top) pass_behind in
        ascends_append (taken_at m id s top ++ pass_of s top) (begin_of m.b s top) first (begin_alone s top m.b) λ r q p o.
        absurd (not_with_begin r p ((member_begin s top q m.b).0 o).1)

  -- .. and all at a top do ..
  top_ascends : (top : ℕ) → Ascends (rules_at m s top)
  unfolding rules_at
  top_ascends top =
      ascends_cond (leb s.counter m.k) (taken_at m (taker_of top) s top ++ pass_of s top ++ begin_of m.b s top) (close_of s top)
      (λ e. early_ascend (leb-true _ _ e) top (taker_of top)) (λ e. close_alone s top)

  -- .. and all at a state.
  pub state_ascends : Ascends (rules_of m s)
  unfolding rules_of
  state_ascends = ascends_below (rules_at m s) 36 (λ i k. top_ascends i) λ i j l k r q p o.
      let x = at_one m s i r h p in
      let y = at_one m s j q h o in
      by_top r q (x.state ∙ sym y.state) (rw (x.symbol, y.symbol) l)

  -- These have that state.
  pub in_state : (r : StackRule) → Member r (rules_of m s) → r.state ≡ s
  unfolding rules_of
  in_state r p = let z = (member_below (rules_at m s) 36 r).0 p in (at_one m s z.0 r h z.2).state
