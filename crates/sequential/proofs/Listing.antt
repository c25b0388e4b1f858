-- The list has the rules that are allowed and no other. Its counters, values of copies and tops run through all the states and tops, and at
-- each state and top it has the rules of the four kinds.
use mathlib.Core.Logic.{◌↔◌}
use mathlib.Core.Path.{◌≡◌, sym, subst}
use Prim.Native.Nat.{ℕ, suc, ◌+◌, ◌^◌, ◌<◌, pred}
use native.Mathlib.Omega.{arith}
use Rattle.model.proofs.Positions.{value_below, length_digits, digits_states, digits_value}
use Rattle.model.specs.declared.Model.{Model}
use Rattle.model.specs.Fits.{Fits}
use Rattle.model.specs.Lines.{digits, value}
use Rattle.sequential.specs.Allowed.{at, StateOf, Allowed}
use Rattle.sequential.specs.Listed.{Member, rules_at, rules_of, rules_with, rules, Listed}
use Rattle.sequential.specs.System.{State, StackRule}
use Rattle.sequential.proofs.Belows.{member_below}
use Rattle.sequential.proofs.OneTop.{at_one, one_at, top_below}

-- The state with the counter after c and the copies whose value is v ..
abbrev pub state_at : Model → ℕ → ℕ → State
state_at m c v = at (suc c) (digits m.g m.k v)

-- .. is one of the model's ..
pub state_at_lem : (m : Model) (c v : ℕ) → c < m.k + 1 → v < m.g ^ m.k → StateOf m (state_at m c v)
state_at_lem m c v h k =
    record {
      low = omega arith;
      high = omega arith;
      count = length_digits m.g m.k v;
      below = digits_states m.g m.k v k;
    }

-- .. and each of the model's is one of these.
at_state : (m : Model) (s : State) → StateOf m s → state_at m (pred s.counter) (value m.g s.copies) ≡ s
at_state m s h =
    let counter : suc (pred s.counter) ≡ s.counter = omega (arith, h.low) in
    let copies : digits m.g m.k (value m.g s.copies) ≡ s.copies =
    rw (← h.count) (digits_value m.g s.copies h.below) in
    let same : state_at m (pred s.counter) (value m.g s.copies) ≡ at s.counter s.copies = rw (counter, copies) in
    same

-- The values of copies are those below Gᴷ.
value_fits : (m : Model) (s : State) → StateOf m s → value m.g s.copies < m.g ^ m.k
value_fits m s h = rw (← h.count) (value_below m.g s.copies h.below)

-- A rule is listed at one of the counters, values of copies and tops that the list runs through.
record Place (m : Model) (r : StackRule) : Type 0 where
  counter : ℕ
  value : ℕ
  top : ℕ
  most : counter < m.k + 1
  below : value < m.g ^ m.k
  last : top < 36
  there : Member r (rules_at m (state_at m counter value) top)

-- A rule is listed exactly if it is listed at one of these.
placed : (m : Model) (r : StackRule) → Listed m r ↔ Place m r
unfolding rules rules_with rules_of
placed m r =
    let counters = member_below (λ c. rules_with m (suc c)) (m.k + 1) r in (
      λ p.
          let c = counters.0 p in
          let v = (member_below (λ v. rules_of m (state_at m c.0 v)) (m.g ^ m.k) r).0 c.2 in
          let t = (member_below (rules_at m (state_at m c.0 v.0)) 36 r).0 v.2 in
          record { counter = c.0; value = v.0; top = t.0; most = c.1; below = v.1; last = t.1; there = t.2 },
      λ p.
          let own = (member_below (rules_at m (state_at m p.counter p.value)) 36 r).1 (p.top, p.last, p.there) in
          let all = (member_below (λ v. rules_of m (state_at m p.counter v)) (m.g ^ m.k) r).1 (p.value, p.below, own) in
          counters.1 (p.counter, p.most, all),
    )

-- A rule is listed exactly if it is allowed.
pub listed_allowed : (m : Model) → Fits m → (r : StackRule) → Listed m r ↔ Allowed m r
listed_allowed m f r = (
  λ p.
      let z = (placed m r).0 p in
      let s = state_at_lem m z.counter z.value z.most z.below in
      let a = at_one m (state_at m z.counter z.value) z.top r s z.there in
      record { state = subst (StateOf m) (sym a.state) s; kind = a.kind },
  λ a.
      let s = r.state in
      (placed m r).1
      (record {
        counter = pred s.counter;
        value = value m.g s.copies;
        top = r.top;
        most = omega (arith, a.state.low, a.state.high);
        below = value_fits m s a.state;
        last = top_below m f r a.kind;
        there = subst (λ s. Member r (rules_at m s r.top)) (sym (at_state m s a.state)) (one_at m f r a.kind);
      }),
)
