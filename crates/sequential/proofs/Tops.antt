-- Whose a top of the one stack is: the threads' symbols and marks are all different numbers, so a top is at most one thread's, and the top
-- of a thread's part of the stack is that thread's.
use mathlib.Core.Bool.{◌&&◌}
use mathlib.Core.List.{List, [], ◌∷◌, ◌++◌, map}
use mathlib.Core.Logic.{◌↔◌, inl, inr}
use mathlib.Core.Path.{◌≡◌, refl}
use Prim.Native.Nat.{ℕ, ◌-◌, ◌≤◌}
use native.Mathlib.Omega.{arith}
use lib.Dec.{T, leb, eqb}
use Rattle.model.specs.declared.Right.{Right}
use Rattle.model.specs.declared.Right.TheVariants.{Remove, Swap, Push}
use Rattle.model.specs.declared.ThreadId.{ThreadId}
use Rattle.model.specs.declared.ThreadId.TheVariants.{A, B}
use Rattle.model.specs.Fits.{RightFits}
use Rattle.model.specs.Lines.{States}
use Rattle.model.specs.Rules.{put}
use Rattle.model.proofs.Tests.{both, order, equal}
use Rattle.sequential.specs.Allowed.{symbol_of, bottom, owns}
use Rattle.sequential.proofs.Orders.{either}

-- A top that is a thread's: one of its 16 symbols, or its mark ..
pub data TopOf (id : ThreadId) (top : ℕ) : Type 0 where
  symbol : (x : ℕ) → x ≤ 15 → top ≡ symbol_of id x → TopOf id top
  mark : top ≡ bottom id → TopOf id top

-- .. is one that its test finds.
pub owned : (id : ThreadId) (top : ℕ) → T (owns id top) ↔ TopOf id top
unfolding owns
owned A top =
    let e = either (leb top 15) (eqb top 32) in (
      λ h. elim (e.0 h) [ inl l ↦ symbol top ((order _ _).0 l) refl | inr l ↦ mark ((equal _ _).0 l) ],
      λ h. e.1 (elim h [ symbol x l k ↦ inl ((order top 15).1 (omega arith)) | mark k ↦ inr ((equal _ _).1 k) ]),
    )
owned B top =
    let s = both (leb 16 top) (leb top 31) in
    let e = either (leb 16 top && leb top 31) (eqb top 33) in (
      λ h.
          elim (e.0 h) [
            | inl l ↦ symbol (top - 16) (omega (arith, (order top 31).0 (s.0 l).1)) (omega (arith, (order 16 top).0 (s.0 l).0))
            | inr l ↦ mark ((equal _ _).0 l)
          ],
      λ h.
          e.1 (elim h [
            | symbol x l k ↦ inl (s.1 ((order 16 top).1 (omega arith), (order top 31).1 (omega arith)))
            | mark k ↦ inr ((equal _ _).1 k)
          ]),
    )

-- It is neither the helper nor the check symbol ..
pub low : (id : ThreadId) {top : ℕ} → TopOf id top → top ≤ 33
low A (symbol x h e) = omega arith
low A (mark e) = omega arith
low B (symbol x h e) = omega arith
low B (mark e) = omega arith

-- .. and only one thread's.
apart : {top : ℕ} → TopOf A top → TopOf B top → ⊥
apart (symbol x h e) (symbol y k f) = omega arith
apart (symbol x h e) (mark f) = omega arith
apart (mark e) (symbol y k f) = omega arith
apart (mark e) (mark f) = omega arith

pub only : (i j : ThreadId) {top : ℕ} → TopOf i top → TopOf j top → i ≡ j
only A A h k = refl
only A B h k = absurd (apart h k)
only B A h k = absurd (apart k h)
only B B h k = refl

-- A thread's symbols stay different in the one stack, and none of them is its mark.
pub alike : (id : ThreadId) (x y : ℕ) → symbol_of id x ≡ symbol_of id y → x ≡ y
alike A x y e = e
alike B x y e = omega arith

pub unmarked : (id : ThreadId) (x : ℕ) → x ≤ 15 → symbol_of id x ≡ bottom id → ⊥
unmarked A x h e = omega arith
unmarked B x h e = omega arith

-- The symbols of a thread's own stack are at most 15 ..
abbrev pub Symbols : List ℕ → Type 0
Symbols w = States 16 w

-- .. and so they are once a right side has come.
pub put_fits : (x : Right) (w : List ℕ) → RightFits x → Symbols w → Symbols (put x w)
put_fits Remove w h s = s
put_fits (Swap a) w h s = (h, s)
put_fits (Push a b) w h s = (h.0, (h.1, s))

-- A thread's part of the one stack: its own stack, and its mark over what is below.
abbrev pub stack : ThreadId → List ℕ → List ℕ → List ℕ
stack id w below = map (symbol_of id) w ++ bottom id ∷ below

-- The same once a right side has come.
pub placed : (id : ThreadId) (x : Right) (w below : List ℕ)
    → map (symbol_of id) (put x []) ++ stack id w below ≡ stack id (put x w) below
placed id Remove w below = refl
placed id (Swap a) w below = refl
placed id (Push a b) w below = refl

-- What holds of every stack with a top that is the thread's holds of its part of the stack.
pub topped : (P : List ℕ → Type 0) (id : ThreadId) (w below : List ℕ) → Symbols w
    → ((top : ℕ) (rest : List ℕ) → TopOf id top → P (top ∷ rest)) → P (stack id w below)
topped P id [] below s h = h (bottom id) below (mark refl)
topped P id (x ∷ w) below s h = h (symbol_of id x) (stack id w below) (symbol x (omega (arith, s.0)) refl)

-- The top of a thread's part of the stack is the thread's.
pub top_of : (id : ThreadId) (w below : List ℕ) {top : ℕ} {rest : List ℕ} → Symbols w → top ∷ rest ≡ stack id w below → TopOf id top
top_of id w below {top} {rest} s =
    topped (λ u. top ∷ rest ≡ u → TopOf id top) id w below s (λ x r k e. let same : top ≡ x = cc in rw same k)
