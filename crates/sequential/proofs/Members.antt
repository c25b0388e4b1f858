-- What stands in each part of the list at a state and a top: the rule that the part is for, exactly if the part's test holds.
use mathlib.Core.Bool.{◌&&◌}
use mathlib.Core.List.{[], ◌∷◌, ◌++◌, map}
use mathlib.Core.Logic.{◌↔◌, ◌⊎◌, inl, inr, ⊎_elim}
use mathlib.Core.Path.{◌≡◌}
use Prim.Native.Nat.{ℕ, suc, ◌≤◌, ◌<◌}
use lib.Dec.{leb, eqb}
use borrow.Author.Tests.{le-leb, lt-leb, leb-true, leb-false}
use Rattle.model.proofs.Tests.{both, order, equal}
use Rattle.model.specs.declared.Model.{Model}
use Rattle.model.specs.declared.Rule.{Rule}
use Rattle.model.specs.declared.Thread.{Thread}
use Rattle.model.specs.declared.ThreadId.{ThreadId}
use Rattle.model.specs.declared.ThreadId.TheVariants.{A, B}
use Rattle.model.specs.Rules.{rule_at, put}
use Rattle.sequential.specs.Allowed.{symbol_of, bottom, closing, at, copy, with_copy}
use Rattle.sequential.specs.Listed.{Member, only_if, taker_of, act_of, acts_of, pass_of, begin_of, holder_of, close_of}
use Rattle.sequential.specs.Listed.{taken_at, rules_at, Ascends}
use Rattle.sequential.specs.System.{State, StackRule}
use Rattle.sequential.proofs.Belows.{member_cond, member_append, member_below, member_only, ascends_only}

-- The rule that a rule of a thread makes at a state and a top.
abbrev pub act_rule : Rule → ThreadId → State → ℕ → StackRule
act_rule x id s top = record { state = s; top = top; next = with_copy s x.after.0; new = map (symbol_of id) (put x.right []) }

-- The pass at a state and a top.
abbrev pub pass_rule : State → ℕ → StackRule
pass_rule s top = record { state = s; top = top; next = at (suc s.counter) s.copies; new = top ∷ [] }

-- B's begin there.
abbrev pub begin_rule : Thread → State → ℕ → StackRule
begin_rule b s top = record { state = s; top = top; next = s; new = symbol_of B b.first.0 ∷ bottom B ∷ [] }

-- The close there.
abbrev pub close_rule : State → ℕ → StackRule
close_rule s top = record { state = s; top = top; next = at 1 s.copies; new = closing (holder_of top) ∷ top ∷ [] }

-- A rule that is listed where a number is at most another is there exactly if it is ..
only_upto : (a b : ℕ) (q r : StackRule) → Member r (only_if (leb a b) q) ↔ ((a ≤ b) × (r ≡ q))
only_upto a b q r =
    let only = member_only (leb a b) q r in
    (λ p. let z = only.0 p in ((order _ _).0 z.0, z.1), λ p. only.1 ((order _ _).1 p.0, p.1))

-- .. and one where two pairs of numbers are the same, exactly if they are.
only_same : (a b c d : ℕ) (q r : StackRule) → Member r (only_if (eqb a b && eqb c d) q) ↔ ((a ≡ b) × (c ≡ d) × (r ≡ q))
only_same a b c d q r =
    let test = both (eqb a b) (eqb c d) in
    let only = member_only (eqb a b && eqb c d) q r in (
      λ p. let z = only.0 p in let t = test.0 z.0 in ((equal _ _).0 t.0, (equal _ _).0 t.1, z.1),
      λ p. only.1 (test.1 ((equal _ _).1 p.0, (equal _ _).1 p.1), p.2),
    )

-- A rule is listed for counters up to K: among those of the thread that takes the top, as the pass or as B's begin.
abbrev pub Early : Model → State → ℕ → StackRule → Type 0
Early m s top r =
    (Member r (taken_at m (taker_of top) s top) ⊎ Member r (pass_of s top)) ⊎ Member r (begin_of m.b s top)

module _ (s : State) (top : ℕ) where
  -- Each of these parts ascends, as it has one rule at most.
  pub act_alone : (x : Rule) (id : ThreadId) → Ascends (act_of x id s top)
  unfolding act_of
  act_alone x id = ascends_only (eqb x.before.0 (copy s) && eqb (symbol_of id x.symbol.0) top) (act_rule x id s top)

  pub pass_alone : Ascends (pass_of s top)
  unfolding pass_of
  pass_alone = ascends_only _ (pass_rule s top)

  pub close_alone : Ascends (close_of s top)
  unfolding close_of
  close_alone = ascends_only (leb top 33) (close_rule s top)

  pub begin_alone : (b : Thread) → Ascends (begin_of b s top)
  unfolding begin_of
  begin_alone b = ascends_only (eqb s.counter 1 && eqb top (closing A)) (begin_rule b s top)

module _ (s : State) (top : ℕ) (r : StackRule) where
  -- A rule of a thread is there exactly if it takes the top at the state ..
  pub member_act : (x : Rule) (id : ThreadId)
      → Member r (act_of x id s top) ↔ ((x.before.0 ≡ copy s) × (symbol_of id x.symbol.0 ≡ top) × (r ≡ act_rule x id s top))
  unfolding act_of
  member_act x id = only_same x.before.0 (copy s) (symbol_of id x.symbol.0) top (act_rule x id s top) r

  -- .. so among a thread's rules there are those that do.
  pub member_acts : (t : Thread) (id : ThreadId)
      → Member r (acts_of t id s top)
      ↔ ((i : ℕ) × (i < t.count) × ((rule_at t i).before.0 ≡ copy s) × (symbol_of id (rule_at t i).symbol.0 ≡ top)
      × (r ≡ act_rule (rule_at t i) id s top))
  unfolding acts_of
  member_acts t id =
      let all = member_below (λ i. act_of (rule_at t i) id s top) t.count r in (
        λ p. let z = all.0 p in let x = (member_act (rule_at t z.0) id).0 z.2 in (z.0, z.1, x.0, x.1, x.2),
        λ p. all.1 (p.0, p.1, (member_act (rule_at t p.0) id).1 (p.2, p.3, p.4)),
      )

  -- The pass is there up to top 33 ..
  pub member_pass : Member r (pass_of s top) ↔ ((top ≤ 33) × (r ≡ pass_rule s top))
  unfolding pass_of
  member_pass = only_upto top 33 (pass_rule s top) r

  -- .. and so is the close.
  pub member_close : Member r (close_of s top) ↔ ((top ≤ 33) × (r ≡ close_rule s top))
  unfolding close_of
  member_close = only_upto top 33 (close_rule s top) r

  -- B's begin is there at counter 1 with the helper on top.
  pub member_begin : (b : Thread) → Member r (begin_of b s top) ↔ ((s.counter ≡ 1) × (top ≡ closing A) × (r ≡ begin_rule b s top))
  unfolding begin_of
  member_begin b = only_same s.counter 1 top (closing A) (begin_rule b s top) r

  -- At a state and a top there are those for counters up to K, or the close.
  pub member_at : (m : Model)
      → Member r (rules_at m s top) ↔ (((s.counter ≤ m.k) × Early m s top r) ⊎ ((m.k < s.counter) × Member r (close_of s top)))
  unfolding rules_at
  member_at m =
      let taken = taken_at m (taker_of top) s top in
      let first = member_append r taken (pass_of s top) in
      let all = member_append r (taken ++ pass_of s top) (begin_of m.b s top) in
      let test = member_cond (leb s.counter m.k) r (taken ++ pass_of s top ++ begin_of m.b s top) (close_of s top) in (
        λ p. ⊎_elim (λ z. inl (leb-true _ _ z.0, ⊎_elim (λ q. inl (first.0 q)) inr (all.0 z.1)))
            (λ z. inr (leb-false _ _ z.0, z.1)) (test.0 p),
        ⊎_elim (λ z. test.1 (inl (le-leb _ _ z.0, all.1 (⊎_elim (λ q. inl (first.1 q)) inr z.1))))
            (λ z. test.1 (inr (lt-leb _ _ z.0, z.1))),
      )
