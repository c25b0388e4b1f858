-- What a tray gives at its front is given, so it is read to its end in one way, or refused by one number.
use mathlib.Core.List.{List}
use mathlib.Core.Path.{◌≡◌, refl}
use Prim.Native.Nat.{ℕ}
use native.Mathlib.Omega.{arith}
use Rattle.model.specs.declared.Model.{Model}
use Rattle.record.specs.Reader.{Refuses}
use Rattle.tray.specs.Whole.{ReadAs, end, next, RefusedBy, here, behind}
use Rattle.tray.proofs.Laws.{tray_refusal}

-- A tray is read to its end in one way, ..
pub one_reading : {bytes : List ℕ} {ms ns : List Model} → ReadAs bytes ms → ReadAs bytes ns → ms ≡ ns
one_reading (end e) (end f) = refl
one_reading (end e) (next f q) = absurd (let z : ◌≡◌ {A = ℕ} 0 1 = cc in omega arith)
one_reading (next e p) (end f) = absurd (let z : ◌≡◌ {A = ℕ} 0 1 = cc in omega arith)
one_reading (next {rest = rest} {m = m} {ms = ms} e p) (next {rest = rest'} {m = n} {ms = ns} f q) =
    let model : m ≡ n = cc in
    let same : rest ≡ rest' = cc in
    let others : ms ≡ ns = one_reading p (rw (← same) at q) in
    rw (model, others) refl

-- .. or its first bad record has one number, ..
pub one_refusal : {bytes : List ℕ} {n k : ℕ} → RefusedBy bytes n → RefusedBy bytes k → n ≡ k
one_refusal (here e) (here f) = cc
one_refusal (here e) (behind f q) = absurd (let z : ◌≡◌ {A = ℕ} 0 1 = cc in omega arith)
one_refusal (behind e p) (here f) = absurd (let z : ◌≡◌ {A = ℕ} 0 1 = cc in omega arith)
one_refusal (behind {rest = rest} e p) (behind {rest = rest'} f q) =
    let same : rest ≡ rest' = cc in one_refusal p (rw (← same) at q)

-- .. and not both.
pub one_of_both : {bytes : List ℕ} {ms : List Model} {n : ℕ} → ReadAs bytes ms → RefusedBy bytes n → ⊥
one_of_both (end e) (here f) = absurd (let z : ◌≡◌ {A = ℕ} 0 1 = cc in omega arith)
one_of_both (end e) (behind f q) = absurd (let z : ◌≡◌ {A = ℕ} 0 1 = cc in omega arith)
one_of_both (next e p) (here f) = absurd (let z : ◌≡◌ {A = ℕ} 0 1 = cc in omega arith)
one_of_both (next {rest = rest} e p) (behind {rest = rest'} f q) = let same : rest ≡ rest' = cc in one_of_both p (rw (← same) at q)

-- The number is one that a record is refused by.
pub refused_range : {bytes : List ℕ} {n : ℕ} → RefusedBy bytes n → Refuses 5 n
refused_range {bytes} (here e) = tray_refusal bytes e
refused_range (behind e r) = refused_range r
