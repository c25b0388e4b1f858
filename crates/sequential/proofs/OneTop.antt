-- The rules at one state and top: each is of the kind that its part of the list is for, and a rule of a kind passes the test of its part.
use mathlib.Core.List.{List, [], ◌∷◌}
use mathlib.Core.Logic.{inl, inr, ⊎_elim}
use mathlib.Core.Path.{◌≡◌, refl, sym, ap, ◌∙◌, subst}
use Prim.Native.Nat.{ℕ, ◌+◌, ◌-◌, ◌≤◌, ◌<◌}
use native.Mathlib.Decide.{dec_lt}
use native.Mathlib.Omega.{arith}
use lib.Dec.{T}
use borrow.Author.Tests.{lt-ltb, le-ltb}
use Rattle.model.proofs.Tests.{passed, failed}
use Rattle.costs.proofs.Views.{apart}
use Rattle.model.proofs.Inside.{fits_of}
use Rattle.model.specs.declared.Model.{Model}
use Rattle.model.specs.declared.ThreadId.{ThreadId}
use Rattle.model.specs.declared.ThreadId.TheVariants.{A, B}
use Rattle.model.specs.Fits.{Fits}
use Rattle.model.specs.Rules.{rule_at}
use Rattle.model.specs.Walk.{thread_of}
use Rattle.sequential.specs.Allowed.{symbol_of, closing, owns, StateOf, Acts, Passes, Closes, Begins}
use Rattle.sequential.specs.Allowed.{Kind, acts, passes, closes, begins}
use Rattle.sequential.specs.Listed.{Member, taker_of, pass_of, begin_of, holder_of, close_of, taken_at, rules_at}
use Rattle.sequential.specs.System.{State, StackRule}
use Rattle.sequential.proofs.Members.{member_acts, member_pass, member_close, member_begin, Early, member_at}
use Rattle.sequential.proofs.Tops.{TopOf, symbol, mark, owned, low, only}

-- A thread's symbols in the one stack are at most 31.
pub symbols_below : (id : ThreadId) {s : ℕ} → s ≤ 15 → symbol_of id s ≤ 31
symbols_below A h = omega arith
symbols_below B h = omega arith

-- The thread that takes a top is the one whose symbol it is.
taker : (id : ThreadId) (s : ℕ) → s ≤ 15 → taker_of (symbol_of id s) ≡ id
taker A s h = rw (lt-ltb s 16 (omega arith))
taker B s h = rw (le-ltb (16 + s) 16 (omega arith))

-- A thread's top is at most 33, and it is this thread that a top up to 33 belongs to ..
held : (id : ThreadId) (top : ℕ) → T (owns id top) → (top ≤ 33) × (holder_of top ≡ id)
held A top h = (low A ((owned A top).0 h), rw (passed (owns A top) h))
held B top h =
    let own = (owned B top).0 h in
    (low B own, rw (failed (owns A top) (λ k. apart A (only A B ((owned A top).0 k) own))))

-- .. so each top up to 33 is one of the thread that it belongs to.
holds : (top : ℕ) → top ≤ 33 → T (owns (holder_of top) top)
holds top h = elim (dec_lt top 16) [
  | yes a ↦ by A (symbol top (omega arith) refl)
  | no a ↦ elim (dec_lt top 32) [
    | yes b ↦ by B (symbol (top - 16) (omega arith) (omega arith))
    | no b ↦ elim (dec_lt top 33) [ yes c ↦ by A (mark (omega arith)) | no c ↦ by B (mark (omega arith)) ]
  ]
]
  where
    by : (id : ThreadId) → TopOf id top → T (owns (holder_of top) top)
    by id t = let own = (owned id top).1 t in subst (λ i. T (owns i top)) (sym (held id top own).1) own

-- A rule is at a state and a top, and of one of the kinds.
pub record At (m : Model) (s : State) (top : ℕ) (r : StackRule) : Type 0 where
  pub state : r.state ≡ s
  pub symbol : r.top ≡ top
  pub kind : Kind m r

module _ (m : Model) (s : State) (top : ℕ) (r : StackRule) where
  -- That holds of a rule where it holds of one equal to it.
  placed : {q : StackRule} → r ≡ q → q.state ≡ s → q.top ≡ top → Kind m q → At m s top r
  placed e state on kind = subst (At m s top) (sym e) (record { state = state; symbol = on; kind = kind })

  -- What is listed for a thread's rules is there and of a kind ..
  at_acts : s.counter ≤ m.k → (id : ThreadId) → Member r (taken_at m id s top) → At m s top r
  at_acts h id p =
      let z = (member_acts s top r (thread_of id m) id).0 p in
      placed z.4 refl refl
      (acts (record { id = id; number = z.0; listed = z.1; turn = h; before = z.2; symbol = sym z.3; after = refl; right = refl }))

  -- .. so is the pass ..
  at_passes : s.counter ≤ m.k → Member r (pass_of s top) → At m s top r
  at_passes h p =
      let z = (member_pass s top r).0 p in
      placed z.1 refl refl (passes (record { turn = h; symbol = z.0; after = refl; right = refl }))

  -- .. B's begin ..
  at_begins : Member r (begin_of m.b s top) → At m s top r
  at_begins p =
      let z = (member_begin s top r m.b).0 p in
      placed z.2 refl refl (begins (record { turn = z.0; symbol = z.1; after = refl; right = refl }))

  -- .. and the close.
  at_closes : s.counter ≡ m.k + 1 → Member r (close_of s top) → At m s top r
  at_closes h p =
      let z = (member_close s top r).0 p in
      let own = holds top z.0 in
      placed z.1 refl refl (closes (record { id = holder_of top; turn = h; symbol = own; after = refl; right = refl }))

  -- All that is listed at a state and a top is there, and of one of the kinds.
  pub at_one : StateOf m s → Member r (rules_at m s top) → At m s top r
  at_one h p =
      ⊎_elim (λ z. ⊎_elim (⊎_elim (at_acts z.0 (taker_of top)) (at_passes z.0)) at_begins z.1)
      (λ z. at_closes (omega (arith, h.high, z.0)) z.1) ((member_at s top r m).0 p)

-- A rule with another next state and other new symbols.
abbrev made : StackRule → State → List ℕ → StackRule
made r next new = record { state = r.state; top = r.top; next = next; new = new }

-- A rule with its own next state and new symbols is the same.
parts : (r : StackRule) {next : State} {new : List ℕ} → r.next ≡ next → r.new ≡ new → r ≡ made r next new
parts r {next} {new} e d = let same : made r r.next r.new ≡ made r next new = rw (e, d) in same

module _ (m : Model) (f : Fits m) (r : StackRule) where
  -- What is listed for counters up to K is listed at a state with such a counter.
  early : r.state.counter ≤ m.k → Early m r.state r.top r → Member r (rules_at m r.state r.top)
  early h p = (member_at r.state r.top r m).1 (inl (h, p))

  -- A rule of each kind is listed in its part.
  acts_at : Acts m r → Member r (rules_at m r.state r.top)
  acts_at a =
      let t = thread_of a.id m in
      let own = taker a.id (rule_at t a.number).symbol.0 ((fits_of f a.id).rules a.number a.listed).top in
      let all = (member_acts r.state r.top r t a.id).1
      (a.number, a.listed, a.before, sym a.symbol, parts r a.after a.right) in
      early a.turn
      (inl (inl (subst (λ id. Member r (taken_at m id r.state r.top)) (sym (ap taker_of a.symbol ∙ own)) all)))

  passes_at : Passes m r → Member r (rules_at m r.state r.top)
  passes_at a = early a.turn (inl (inr ((member_pass r.state r.top r).1 (a.symbol, parts r a.after a.right))))

  begins_at : Begins m r → Member r (rules_at m r.state r.top)
  begins_at a =
      let begin = (member_begin r.state r.top r m.b).1 (a.turn, a.symbol, parts r a.after a.right) in
      early (omega (arith, a.turn, f.k.0)) (inr begin)

  closes_at : Closes m r → Member r (rules_at m r.state r.top)
  closes_at a =
      let own = held a.id r.top a.symbol in
      let new = a.right ∙ ap (λ id. closing id ∷ r.top ∷ []) (sym own.1) in
      let close = (member_close r.state r.top r).1 (own.0, parts r a.after new) in
      (member_at r.state r.top r m).1 (inr (omega (arith, a.turn), close))

  -- A rule of a kind is listed at its state and top ..
  pub one_at : Kind m r → Member r (rules_at m r.state r.top)
  one_at (acts a) = acts_at a
  one_at (passes a) = passes_at a
  one_at (closes a) = closes_at a
  one_at (begins a) = begins_at a

  -- .. and its top is one from 0 to 35.
  pub top_below : Kind m r → r.top < 36
  top_below (acts a) =
      let low = ((fits_of f a.id).rules a.number a.listed).top in
      omega (arith, a.symbol, symbols_below a.id low)
  top_below (passes a) = omega (arith, a.symbol)
  top_below (closes a) = omega (arith, (held a.id r.top a.symbol).0)
  top_below (begins a) = omega (arith, a.symbol)
