-- Places filled from the front: those filled stand before the zero ones, and the next value is put into the first of these.
use mathlib.Core.List.{List, ◌∷◌, ◌++◌}
use mathlib.Core.Path.{◌≡◌, refl, sym, ◌∙◌}
use Prim.Native.Nat.{ℕ, suc, ◌-◌, ◌<◌}
use native.Mathlib.Omega.{arith}
use lib.ListN.{length, take, drop, set, replicate, get_or, length-set, take-append-drop}
use lib.Seq.{length-take-le, drop-set-lt, drop-cons}
use Rattle.model.specs.Zero.{Padded}

module _ {A : Type 0} {zero : A} where
  -- As many are filled as are counted ..
  pub counts : {count : ℕ} {l : List A} → Padded zero count l → length (take count l) ≡ count
  counts {count} {l} p = length-take-le count l (omega arith)

  -- .. and the places after them are zero.
  pub fills : {count : ℕ} {l : List A} → Padded zero count l → take count l ++ replicate (64 - count) zero ≡ l
  fills {count} {l} p = rw (← p.zeros) (take-append-drop count l)

  -- All places are zero at first ..
  pub padded_none : Padded zero 0 (replicate 64 zero)
  padded_none = record { low = omega arith; size = refl; zeros = refl }

  -- .. and a value is put into the first zero place.
  pub padded_more : {i : ℕ} {l : List A} (x : A) → Padded zero i l → i < 64 → Padded zero (suc i) (set l i x)
  padded_more {i} {l} x p h =
      let inside : i < length l = omega arith in
      let cut : 64 - i ≡ suc (64 - suc i) = omega arith in
      let split : get_or l i zero ∷ drop (suc i) l ≡ zero ∷ replicate (64 - suc i) zero =
      sym (drop-cons l i zero inside) ∙ rw cut at p.zeros in
      record {
        low = h;
        size = rw length-set p.size;
        zeros = drop-set-lt (suc i) l i x (omega arith) ∙ (cc);
      }
