-- What a clash is: a rule of both threads that one has held and the other free. A rule of the union that is held, or free, is so in some
-- thread; and keys rise, so a rule of both threads stands there once.
use mathlib.Core.Bool.{Bool, true, false, not, ◌&&◌, ◌||◌, true≢false, not-not, not-eq-not, and-eq-true_iff}
use mathlib.Core.List.{List, [], ◌∷◌}
use mathlib.Core.Logic.{◌↔◌, ◌⊎◌, inl, inr}
use mathlib.Core.Path.{◌≡◌, refl, sym, ap, ◌∙◌}
use Prim.Native.Nat.{ℕ, ◌≤◌, ◌<◌}
use lib.ListN.{length}
use borrow.Author.Tests.{not-true}
use Rattle.model.specs.declared.Thread.{Thread}
use Rattle.model.specs.Fits.{ThreadFits}
use Rattle.model.specs.Order.{key_of}
use Rattle.model.specs.Rules.{rule_at, held_at}
use Rattle.model.proofs.Keys.{one_key}
use Rattle.model.proofs.Sets.{rising, one_place, thread_rises}
use Rattle.merge.specs.Union.{Entry, key_in, entry_of, union_of, clash, Clashing}
use Rattle.merge.proofs.Ascending.{listed}
use Rattle.merge.proofs.Inserted.{All, end, also}
use Rattle.merge.proofs.Made.{union_ascends}
use Rattle.merge.proofs.Members.{flag_of, flag_both, union_all, union_left, union_right}
use Rattle.merge.proofs.Placed.{entry_at, some_at, next_above}

-- A rule of a thread with a key, and whether it is held.
record With (t : Thread) (k : ℕ) (h : Bool) : Type 0 where
  number : ℕ
  listed : number < t.count
  key : key_of (rule_at t number) ≡ k
  held : held_at t number ≡ h

-- Where a flag of either stands, it stands in one of them.
either : (a b : Bool) → a || b ≡ true → (a ≡ true) ⊎ (b ≡ true)
either true b e = inl refl
either false b e = inr e

-- Where rules clash, some rule is both held and free.
clash_some : {C : Type 0} {P : Entry → Type 0} (es : List Entry) → All P es
    → ((e : Entry) → P e → e.held ≡ true → e.free ≡ true → C) → clash es ≡ true → C
unfolding clash
clash_some [] end f c = absurd (true≢false (sym c))
clash_some (e ∷ es) (also p a) f c = elim (either (e.held && e.free) (clash es) c) [
  | inl l ↦ let z = (and-eq-true_iff e.held e.free).0 l in f e p z.0 z.1
  | inr l ↦ clash_some es a f l
]

module _ {g : ℕ} (t u : Thread) (low : g ≤ 16) (f : ThreadFits g t) (k : ThreadFits g u) where
  -- What a rule of the union that is held, or free, is to have: one of the threads has it so.
  abbrev Sourced : Entry → Type 0
  Sourced e = (h : Bool) → flag_of h e ≡ true → With t (key_in e) h ⊎ With u (key_in e) h

  -- A thread's own rules are so there ..
  own : (v : Thread) (r : ℕ) → r < v.count → (h : Bool) → flag_of h (entry_of v r) ≡ true → With v (key_of (rule_at v r)) h
  own v r b true e = record { number = r; listed = b; key = refl; held = e }
  own v r b false e = record { number = r; listed = b; key = refl; held = not-true (held_at v r) e }

  -- .. and so are all of the union.
  sourced : All Sourced (union_of t u)
  sourced =
      union_all t u Sourced
      (λ x y e p q h l. elim (either (flag_of h x) (flag_of h y) (rw flag_both at l)) [
        | inl i ↦ p h i
        | inr i ↦ rw e (q h i)
      ])
      (λ r b h e. inl (own t r b h e))
      (λ r b h e. inr (own u r b h e))

  -- A thread has no rule both held and free ..
  not_both : {key : ℕ} (v : Thread) → ThreadFits g v → With v key true → With v key false → ⊥
  not_both v l a b =
      let keys = a.key ∙ sym b.key in
      let up = thread_rises v l in
      let at = one_place (λ r. key_of (rule_at v r)) v.count up a.number b.number a.listed b.listed keys in
      true≢false (sym a.held ∙ (ap (held_at v) at ∙ b.held))

  -- .. so one that is both is held in one thread and free in the other.
  clashing : {key : ℕ} (h : Bool) → With t key h → With u key (not h) → Clashing t u
  clashing h a b =
      record {
        number = a.number;
        other = b.number;
        listed = a.listed;
        listed_other = b.listed;
        same = one_key g _ _ low (f.rules a.number a.listed) (k.rules b.number b.listed) (a.key ∙ sym b.key);
        differ = rw (a.held, b.held, not-not);
      }

  -- The four cases of where it is held and where it is free.
  sides : {key : ℕ} → With t key true ⊎ With u key true → With t key false ⊎ With u key false → Clashing t u
  sides (inl a) (inl b) = absurd (not_both t f a b)
  sides (inl a) (inr b) = clashing true a b
  sides (inr a) (inl b) = clashing false b a
  sides (inr a) (inr b) = absurd (not_both u k a b)

  -- Where no rule clashes, there is no such rule: what stands for it is held as it is in each thread.
  none_clashing : clash (union_of t u) ≡ false → Clashing t u → ⊥
  none_clashing c z =
      let es = union_of t u in
      let a = some_at (union_left t u c z.number z.listed) in
      let b = some_at (union_right t u c z.other z.listed_other) in
      let keys = a.2.key ∙ (ap key_of z.same ∙ sym b.2.key) in
      let up = rising (λ p. key_in (entry_at es p)) (length es) (next_above es (union_ascends t u (listed k))) in
      let at = one_place (λ p. key_in (entry_at es p)) (length es) up a.0 b.0 a.1 b.1 keys in
      not-eq-not.1 (sym a.2.held ∙ (ap (λ p. (entry_at es p).held) at ∙ b.2.held)) z.differ

  -- The rules of two threads clash exactly if some rule is held in one and free in the other.
  pub clash_means : (clash (union_of t u) ≡ true) ↔ Clashing t u
  clash_means = (
    clash_some (union_of t u) sourced (λ e p h i. sides (p true h) (p false i)),
    λ z. (not-eq-not {b = true}).0 (λ c. none_clashing c z),
  )
