-- What every part of the reader has in common, proved once for each way parts are put together: it takes at most so many
-- bytes, bytes behind those change nothing, and it refuses by a number from 1 to 5, by 11, 13 or 17.
use mathlib.Core.Bool.{Bool, true, false}
use mathlib.Core.List.{List, [], ◌∷◌, ◌++◌}
use mathlib.Core.Path.{◌≡◌, refl}
use Prim.Native.Nat.{ℕ, ◌+◌, ◌≤◌}
use native.Mathlib.Omega.{arith}
use lib.ListN.{length}
use Rattle.model.specs.Results.{refused, accepted, need}
use Rattle.record.specs.Reader.{Read, and_read, parse_byte, Refuses}

-- A number that refuses a record at the front: 6 is for what is left after one.
abbrev pub Low : ℕ → Type 0
Low n = Refuses 5 n

-- More bytes behind those that are left.
abbrev pub before : {A : Type 0} → List ℕ → Read A → Read A
before more (refused n) = refused n
before more (accepted x) = accepted (x.0, x.1 ++ more)

-- Of so many bytes at most n are taken, or they are refused by a low number.
abbrev pub Takes : {A : Type 0} → ℕ → ℕ → Read A → Type 0
Takes size n (refused k) = Low k
Takes size n (accepted x) = size ≤ n + length x.1

-- A part of the reader that takes at most n bytes, and is decided by as many.
pub record Steady {A : Type 0} (n : ℕ) (p : List ℕ → Read A) : Type 0 where
  pub takes : (bs : List ℕ) → Takes (length bs) n (p bs)
  pub decided : (bs more : List ℕ) → n ≤ length bs → p (bs ++ more) ≡ before more (p bs)

-- A value without a byte.
pub none : {A : Type 0} (a : A) → Steady 0 (λ bs. accepted (a, bs))
none a = record { takes = λ bs. omega arith; decided = λ bs more h. refl }

-- One byte.
pub one : Steady 1 parse_byte
unfolding parse_byte
one = record { takes = takes; decided = decided }
  where
    takes : (bs : List ℕ) → Takes (length bs) 1 (parse_byte bs)
    takes [] = omega arith
    takes (b ∷ rest) = omega arith

    decided : (bs more : List ℕ) → 1 ≤ length bs → parse_byte (bs ++ more) ≡ before more (parse_byte bs)
    decided [] more h = absurd (omega arith)
    decided (b ∷ rest) more h = refl

-- A test before a part.
pub tested : {A : Type 0} {n : ℕ} {p : List ℕ → Read A} (k : ℕ) (test : Bool) → Low k → Steady n p
    → Steady n (λ bs. need k test (p bs))
tested k true l s = s
tested k false l s = record { takes = λ bs. l; decided = λ bs more h. refl }

-- A part that takes at most n bytes takes at most any greater number of them.
pub wider : {A : Type 0} {n k : ℕ} {p : List ℕ → Read A} → n ≤ k → Steady n p → Steady k p
wider {A} {n} {k} {p} h s = record { takes = λ bs. go (length bs) (p bs) (s.takes bs); decided = λ bs more j. s.decided bs more (omega arith) }
  where
    go : (size : ℕ) (r : Read A) → Takes size n r → Takes size k r
    go size (refused m) t = t
    go size (accepted x) t = omega arith

-- A part and then another, by the value of the first.
pub chained : {A B : Type 0} {n k : ℕ} {p : List ℕ → Read A} {q : A → List ℕ → Read B} → Steady n p
    → ((bs : List ℕ) (a : A) (rest : List ℕ) → p bs ≡ accepted (a, rest) → Steady k (q a))
    → Steady (n + k) (λ bs. and_read (p bs) q)
chained {A} {B} {n} {k} {p} {q} s later = record { takes = λ bs. takes bs (p bs) refl (s.takes bs); decided = decided }
  where
    both : (bs : List ℕ) (a : A) (rest : List ℕ) → length bs ≤ n + length rest → (r : Read B) → Takes (length rest) k r
        → Takes (length bs) (n + k) r
    both bs a rest h (refused m) t = t
    both bs a rest h (accepted x) t = omega arith

    takes : (bs : List ℕ) (r : Read A) → p bs ≡ r → Takes (length bs) n r → Takes (length bs) (n + k) (and_read r q)
    takes bs (refused m) e t = t
    takes bs (accepted (a, rest)) e t = both bs a rest t (q a rest) ((later bs a rest e).takes rest)

    after : (bs more : List ℕ) → n + k ≤ length bs → (r : Read A) → p bs ≡ r → Takes (length bs) n r
        → and_read (before more r) q ≡ before more (and_read r q)
    after bs more h (refused m) e t = refl
    after bs more h (accepted (a, rest)) e t = (later bs a rest e).decided rest more (omega arith)

    decided : (bs more : List ℕ) → n + k ≤ length bs → and_read (p (bs ++ more)) q ≡ before more (and_read (p bs) q)
    decided bs more h =
        let first : p (bs ++ more) ≡ before more (p bs) = s.decided bs more (omega arith) in
        rw first (after bs more h (p bs) refl (s.takes bs))
