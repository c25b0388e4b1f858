-- Where some run reaches the target, a shortest one does. Whether n steps reach it is decided by trying, for each step, every turn below 2K
-- and every rule of its thread's list; and of numbers for which something is decided the least can be found.
use mathlib.Core.Bool.{Bool, true, false, not, ◌&&◌}
use mathlib.Core.List.{List, [], ◌∷◌}
use mathlib.Core.Logic.{◌⊎◌, inl, inr}
use mathlib.Core.Path.{◌≡◌, refl, subst}
use Prim.Native.Nat.{ℕ, zero, suc, ◌*◌, ◌≤◌, ◌<◌}
use native.Mathlib.Decide.{dec_lt}
use native.Mathlib.Nat.{le_antisymm}
use native.Mathlib.Omega.{arith}
use lib.Dec.{T}
use lib.ListN.{length}
use Rattle.model.specs.declared.Model.{Model}
use Rattle.model.specs.Results.{refused, accepted, and_then}
use Rattle.model.specs.Runs.{Reaches}
use Rattle.model.specs.Verdict.{Shortest}
use Rattle.model.specs.Walk.{owner_of, thread_of, Config, Step, Walked, start_of, step_from, walk, at_target}
use Rattle.model.proofs.Inside.{applies_iff}
use Rattle.model.proofs.Results.{through}
use Rattle.model.proofs.Steps.{stepped}
use Rattle.model.proofs.Tests.{both, negated}

-- The least number that has a property, where it is below n.
record Least (P : ℕ → Type 0) (n : ℕ) : Type 0 where
  number : ℕ
  low : number < n
  has : P number
  least : (i : ℕ) → P i → number ≤ i

-- Where the property is decided, there is such a number, or all that have it are n or above.
least_below : {P : ℕ → Type 0} → ((i : ℕ) → Dec (P i)) → (n : ℕ) → Least P n ⊎ ((i : ℕ) → P i → n ≤ i)
least_below d zero = inr (λ i p. omega arith)
least_below {P} d (suc n) =
    elim (least_below d n) [
      | inl l ↦ inl (record { number = l.number; low = omega (arith, l.low); has = l.has; least = l.least })
      | inr above ↦
          elim (d n) [
            | yes p ↦ inl (record { number = n; low = omega arith; has = p; least = above })
            | no q ↦
                inr
                (λ i p. elim (dec_lt n i) [
                  | yes h ↦ h
                  | no h ↦ absurd (q (subst P (le_antisymm (omega arith) (above i p)) p))
                ])
          ]
    ]

-- So whether some number below n has it is decided.
some_below : {P : ℕ → Type 0} → ((i : ℕ) → Dec (P i)) → (n : ℕ) → Dec ((i : ℕ) × (i < n) × P i)
some_below d n =
    elim (least_below d n) [
      | inl l ↦ yes (l.number, l.low, l.has)
      | inr above ↦ no (λ z. omega (arith, above z.0 z.2, z.1))
    ]

-- A test is decided.
test : (b : Bool) → Dec (T b)
test true = yes tt
test false = no (λ h. h)

module _ (m : Model) where
  -- A walk ends at the target.
  abbrev ends : Walked → Bool
  ends (refused n) = false
  ends (accepted c) = not c.held && at_target m c.shared c.stacks

  -- From where a walk has come, it reaches the target in n steps more.
  abbrev More : ℕ → Walked → Type 0
  More zero w = T (ends (and_then w (λ c. walk m c [])))
  More (suc n) (refused k) = ⊥
  More (suc n) (accepted c) =
      (t : ℕ) × (t < 2 * m.k)
      × ((r : ℕ) × (r < (thread_of (owner_of t) m).count) × More n (step_from m c (record { turn = t; rule = r })))

  -- That is decided.
  decided : (n : ℕ) (w : Walked) → Dec (More n w)
  decided zero w = test (ends (and_then w (λ c. walk m c [])))
  decided (suc n) (refused k) = no (λ h. h)
  decided (suc n) (accepted c) =
      some_below
      (λ t. some_below (λ r. decided n (step_from m c (record { turn = t; rule = r }))) (thread_of (owner_of t) m).count)
      (2 * m.k)

  -- Then there are such steps ..
  taken : (n : ℕ) (w : Walked) → More n w
      → (ss : List Step) × (length ss ≡ n) × T (ends (and_then w (λ c. walk m c ss)))
  unfolding walk
  taken zero w h = ([], refl, h)
  taken (suc n) (refused k) h = absurd h
  taken (suc n) (accepted c) h =
      let s : Step = record { turn = h.0; rule = h.2.0 } in
      let rest = taken n (step_from m c s) h.2.2 in
      (s ∷ rest.0, omega (arith, rest.1), rest.2)

  -- .. and each walk that ends at the target has made such steps.
  made : (ss : List Step) (c : Config) {d : Config} → walk m c ss ≡ accepted d → T (ends (accepted d))
      → More (length ss) (accepted c)
  unfolding walk
  made [] c e t = rw e t
  made (s ∷ ss) c e t =
      let gone = through (step_from m c s) (λ d. walk m d ss) e in
      let h = stepped gone.1 in
      let rule = (applies_iff (thread_of (owner_of s.turn) m) s.rule c.shared h.top).0 h.rule in
      (s.turn, h.early, (s.rule, rule.listed, rw gone.1 (made ss gone.0 gone.2 t)))

  -- A walk from the start that ends at the target is a run that reaches it.
  reaches : (ss : List Step) (w : Walked) → walk m (start_of m) ss ≡ w → T (ends w) → Reaches m ss
  reaches ss (refused n) e t = absurd t
  reaches ss (accepted c) e t =
      let z = (both (not c.held) (at_target m c.shared c.stacks)).0 t in
      record {
        shared = c.shared;
        stacks = c.stacks;
        leads = record { turn = c.turn; walked = rw ((negated c.held).0 z.0) at e };
        target = z.1;
      }

  -- Where some run reaches the target, a shortest one does.
  pub some_shortest : {ss : List Step} → Reaches m ss → (k : ℕ) × (k ≤ length ss) × Shortest m k
  some_shortest {ss} r =
      let more : (ts : List Step) → Reaches m ts → More (length ts) (accepted (start_of m)) =
      λ ts q. made ts (start_of m) q.leads.walked q.target in
      elim (least_below (λ n. decided n (accepted (start_of m))) (suc (length ss))) [
        | inl l ↦
            let x = taken l.number (accepted (start_of m)) l.has in (
              l.number,
              l.least (length ss) (more ss r),
              record {
                schedule = x.0;
                reaches = reaches x.0 (walk m (start_of m) x.0) refl x.2;
                steps = x.1;
                least = λ ts q. l.least (length ts) (more ts q);
              },
            )
        | inr above ↦ absurd (omega (arith, above (length ss) (more ss r)))
      ]
