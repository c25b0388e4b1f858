-- What is known of a stack whose depth has no bound: its topmost symbols, and whether others may lie below them. What a rule
-- makes of a stack is known where the stack before it was.
use mathlib.Core.Bool.{Bool, true, false, ◌&&◌, cond}
use mathlib.Core.List.{List, [], ◌∷◌}
use mathlib.Core.Path.{◌≡◌, refl, sym, ◌∙◌}
use Prim.Native.Nat.{ℕ, zero, suc}
use lib.Dec.{T, eqb}
use Rattle.model.specs.declared.Right.{Right}
use Rattle.model.specs.declared.Right.TheVariants.{Remove, Swap, Push}
use Rattle.model.specs.Tops.{Top}
use Rattle.std.specs.Prelude.{None, Some}
use Rattle.model.specs.Rules.{put}
use Rattle.model.specs.Walk.{has_top}
use Rattle.model.proofs.Tests.{passed, both, equal}
use Rattle.cases.proofs.Scans.{all}

-- A stack that is empty, one of which nothing is known, or a symbol on top of what is known of the rest.
pub data Shape : Type 0 where
  empty unknown : Shape
  top : ℕ → Shape → Shape

-- What is known is true of a stack.
abbrev pub Matches : Shape → List ℕ → Type 0
Matches empty [] = Unit {0}
Matches empty (x ∷ w) = ⊥
Matches unknown w = Unit {0}
Matches (top γ s) [] = ⊥
Matches (top γ s) (x ∷ w) = (γ ≡ x) × Matches s w

-- A stack of that shape may have the top that is asked for ..
abbrev pub may_have : Top → Shape → Bool
may_have None s = true
may_have (Some a) empty = false
may_have (Some a) unknown = true
may_have (Some a) (top γ s) = eqb γ a.0

-- .. and where one has it, its shape says so.
pub may_have_lem : (t : Top) (s : Shape) (w : List ℕ) → Matches s w → T (has_top t w) → T (may_have t s)
may_have_lem None s w o h = tt
may_have_lem (Some a) empty [] o h = h
may_have_lem (Some a) empty (x ∷ w) o h = absurd o
may_have_lem (Some a) unknown w o h = tt
may_have_lem (Some a) (top γ s) [] o h = absurd o
may_have_lem (Some a) (top γ s) (x ∷ w) o h = rw o.0 h

-- One shape says no less than another.
abbrev pub under : Shape → Shape → Bool
under s unknown = true
under empty empty = true
under unknown empty = false
under (top γ s) empty = false
under empty (top l t) = false
under unknown (top l t) = false
under (top γ s) (top l t) = eqb γ l && under s t

pub under_matches : (s t : Shape) (w : List ℕ) → T (under s t) → Matches s w → Matches t w
under_matches s unknown w u o = tt
under_matches empty empty w u o = o
under_matches unknown empty w u o = absurd u
under_matches (top γ s) empty w u o = absurd u
under_matches empty (top l t) w u o = absurd u
under_matches unknown (top l t) w u o = absurd u
under_matches (top γ s) (top l t) [] u o = absurd o
under_matches (top γ s) (top l t) (x ∷ w) u o =
    let h = (both (eqb γ l) (under s t)).0 u in (sym ((equal γ l).0 h.0) ∙ o.0, under_matches s t w h.1 o.1)

-- So many symbols are kept, and what lies below them is forgotten.
abbrev pub cut : ℕ → Shape → Shape
cut n empty = empty
cut n unknown = unknown
cut zero (top γ s) = unknown
cut (suc n) (top γ s) = top γ (cut n s)

cut_matches : (n : ℕ) (s : Shape) (w : List ℕ) → Matches s w → Matches (cut n s) w
cut_matches n empty w o = o
cut_matches n unknown w o = tt
cut_matches zero (top γ s) w o = tt
cut_matches (suc n) (top γ s) [] o = o
cut_matches (suc n) (top γ s) (x ∷ w) o = (o.0, cut_matches n s w o.1)

-- The right side of a rule comes on a stack without its top.
abbrev pub laid : Right → Shape → Shape
laid Remove s = s
laid (Swap a) s = top a.0 s
laid (Push a b) s = top a.0 (top b.0 s)

laid_matches : (x : Right) (s : Shape) (w : List ℕ) → Matches s w → Matches (laid x s) (put x w)
laid_matches Remove s w o = o
laid_matches (Swap a) s w o = (refl, o)
laid_matches (Push a b) s w o = (refl, (refl, o))

-- Then two symbols are kept, so that there are few shapes, however deep the stacks.
abbrev pub lay : Right → Shape → Shape
lay x s = cut 2 (laid x s)

-- The shapes to which a rule for symbol γ may lead: none where the top is known to be another, or there is no top.
abbrev pub fired : ℕ → Right → Shape → List Shape
fired γ x empty = []
fired γ x unknown = lay x unknown ∷ []
fired γ x (top l s) = cond (eqb γ l) (lay x s ∷ []) []

-- Where γ is the top, what the rule makes of the stack matches one of them.
pub fired_matches : (f : Shape → Bool) (γ : ℕ) (x : Right) (s : Shape) (w : List ℕ) → Matches s (γ ∷ w)
    → T (all f (fired γ x s)) → (d : Shape) × T (f d) × Matches d (put x w)
fired_matches f γ x empty w o t = absurd o
fired_matches f γ x unknown w o t =
    (lay x unknown, ((both (f (lay x unknown)) true).0 t).0, cut_matches 2 (laid x unknown) (put x w) (laid_matches x unknown w tt))
fired_matches f γ x (top l s) w o t =
    let u : T (f (lay x s) && true) = rw (passed (eqb γ l) ((equal γ l).1 (sym o.0))) at t in
    (lay x s, ((both (f (lay x s)) true).0 u).0, cut_matches 2 (laid x s) (put x w) (laid_matches x s w o.1))
