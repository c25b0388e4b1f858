-- The order of schedules is a strict order, and of two of one length one stands before the other unless they are equal. So at most
-- one schedule of a kind is the first of its length.
use mathlib.Core.List.{List, [], ◌∷◌}
use mathlib.Core.Logic.{◌⊎◌, inl, inr, ⊎_elim}
use mathlib.Core.Path.{◌≡◌, refl, sym, ap, ◌∙◌}
use Prim.Native.Nat.{ℕ}
use native.Mathlib.Decide.{dec_lt}
use native.Mathlib.Omega.{arith}
use lib.ListN.{length}
use Rattle.model.specs.First.{Sooner, Before, First}
use Rattle.model.specs.Walk.{Step}

-- No step comes before itself.
pub sooner_self : {s t : Step} → Sooner s t → s ≡ t → ⊥
sooner_self (Sooner.turn l) e = omega (arith, ap (λ (s : Step). s.turn) e)
sooner_self (Sooner.rule p l) e = omega (arith, ap (λ (s : Step). s.rule) e)

-- Of three steps in order the first comes before the last.
pub sooner_through : {s t u : Step} → Sooner s t → Sooner t u → Sooner s u
sooner_through (Sooner.turn l) (Sooner.turn k) = Sooner.turn (omega arith)
sooner_through (Sooner.turn l) (Sooner.rule p k) = Sooner.turn (omega arith)
sooner_through (Sooner.rule p l) (Sooner.turn k) = Sooner.turn (omega arith)
sooner_through (Sooner.rule p l) (Sooner.rule q k) = Sooner.rule (omega arith) (omega arith)

-- Two steps in the same turn by the same rule are equal.
pub same_step : (s t : Step) → s.turn ≡ t.turn → s.rule ≡ t.rule → s ≡ t
same_step s t p q =
    ap {B = Step} (λ (u : ℕ). record { turn = u; rule = s.rule }) p ∙ ap {B = Step} (λ (u : ℕ). record { turn = t.turn; rule = u }) q

-- Of two steps one comes before the other, or they are equal.
pub sooner_or : (s t : Step) → Sooner s t ⊎ (s ≡ t ⊎ Sooner t s)
sooner_or s t =
    elim (dec_lt s.turn t.turn) [
      | yes l ↦ inl (Sooner.turn l)
      | no l ↦
          elim (dec_lt t.turn s.turn) [
            | yes k ↦ inr (inr (Sooner.turn k))
            | no k ↦
                let same : s.turn ≡ t.turn = omega arith in
                elim (dec_lt s.rule t.rule) [
                  | yes i ↦ inl (Sooner.rule same i)
                  | no i ↦
                      elim (dec_lt t.rule s.rule) [
                        | yes j ↦ inr (inr (Sooner.rule (sym same) j))
                        | no j ↦ inr (inl (same_step s t same (omega arith)))
                      ]
                ]
          ]
    ]

-- Two schedules in order: the first step of one comes before the other's, or both are the same and the rest is in order.
pub before_cons : {s t : Step} {ss ts : List Step} → Before (s ∷ ss) (t ∷ ts) → Sooner s t ⊎ ((s ≡ t) × Before ss ts)
before_cons (Before.now h) = inl h
before_cons (Before.later h) = inr (refl, h)

-- No schedule stands before one without steps.
pub before_none : {ss : List Step} → Before ss [] → ⊥
before_none b = empty b refl
  where
    empty : {ss ts : List Step} → Before ss ts → ts ≡ [] → ⊥
    empty (Before.now h) e = let z : ◌≡◌ {A = ℕ} 0 1 = cc in omega arith
    empty (Before.later h) e = let z : ◌≡◌ {A = ℕ} 0 1 = cc in omega arith

-- No schedule stands before itself.
pub before_self : (ss : List Step) → Before ss ss → ⊥
before_self [] b = before_none b
before_self (s ∷ ss) b = ⊎_elim (λ h. sooner_self h refl) (λ h. before_self ss h.1) (before_cons b)

-- Of three schedules in order the first stands before the last.
pub before_through : {ss ts us : List Step} → Before ss ts → Before ts us → Before ss us
before_through (Before.now h) (Before.now k) = Before.now (sooner_through h k)
before_through (Before.now h) (Before.later k) = Before.now h
before_through (Before.later h) (Before.now k) = Before.now k
before_through (Before.later h) (Before.later k) = Before.later (before_through h k)

-- Of two schedules of one length one stands before the other, or they are equal.
pub before_or : (ss ts : List Step) → length ss ≡ length ts → Before ss ts ⊎ (ss ≡ ts ⊎ Before ts ss)
before_or [] [] e = inr (inl refl)
before_or [] (t ∷ ts) e = absurd (omega arith)
before_or (s ∷ ss) [] e = absurd (omega arith)
before_or (s ∷ ss) (t ∷ ts) e =
    ⊎_elim (λ h. inl (Before.now h))
    (⊎_elim
    (λ h. rw h (⊎_elim (λ k. inl (Before.later k)) (⊎_elim (λ k. inr (inl (ap (λ us. t ∷ us) k))) (λ k. inr (inr (Before.later k))))
    (before_or ss ts (omega arith))))
    (λ h. inr (inr (Before.now h))))
    (sooner_or s t)

module _ {Run : List Step → Type 0} {n : ℕ} where
  -- At most one schedule of a kind is the first of its length.
  pub first_once : {ss ts : List Step} → First Run n ss → First Run n ts → ss ≡ ts
  first_once {ss} {ts} p q =
      ⊎_elim (λ b. absurd (q.first ss p.run p.count b)) (⊎_elim (λ e. e) (λ b. absurd (p.first ts q.run q.count b)))
      (before_or ss ts (p.count ∙ sym q.count))

  -- The first of a kind is the first of another kind with the same schedules.
  pub first_as : {Other : List Step → Type 0} {ss : List Step} → ((us : List Step) → Run us → Other us)
      → ((us : List Step) → Other us → Run us) → First Run n ss → First Other n ss
  first_as {ss = ss} f g p = record { run = f ss p.run; count = p.count; first = λ ts r e b. p.first ts (g ts r) e b }
