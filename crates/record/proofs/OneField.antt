-- A field both ways: what is written of a value in range is read as that value, and what was read was written so; the
-- field's bit stands exactly if the value is not the default.
use mathlib.Core.Bool.{Bool, true, false, not}
use mathlib.Core.List.{List, [], ◌∷◌, ◌++◌}
use mathlib.Core.Path.{◌≡◌, sym, ap, subst₂}
use Prim.Native.Nat.{ℕ, suc, ◌≤◌, ◌<◌}
use native.Mathlib.Decide.{ℕ_discrete}
use lib.Dec.{T_not, leb, ltb, eqb}
use borrow.Author.Tests.{le-leb, lt-ltb, eq-eqb, ne_eqb}
use Rattle.model.proofs.Results.{apart, accepted_same, checked, through}
use Rattle.model.proofs.Tests.{both, order, failed}
use Rattle.model.specs.Results.{accepted}
use Rattle.record.specs.Reader.{Read, and_read, in_range, parse_byte, parse_ranged, parse_field}
use Rattle.writer.specs.Writer.{field_of}

-- What was read in two parts was read in each.
pub parted : {A B P : Type 0} (r : Read A) (next : A → List ℕ → Read B) {b : B} {rest : List ℕ}
    → and_read r next ≡ accepted (b, rest) → ((a : A) (mid : List ℕ) → r ≡ accepted (a, mid) → next a mid ≡ accepted (b, rest) → P) → P
parted r next e k = let t = through r (λ x. next x.0 x.1) e in k t.0.0 t.0.1 t.1 t.2

-- Two readings that agree have one value and leave one rest.
pub value_same : {A : Type 0} {a b : A} {r s : List ℕ} → ◌≡◌ {A = Read A} (accepted (a, r)) (accepted (b, s))
    → (a ≡ b) × (r ≡ s)
value_same e = let z = accepted_same e in (ap (λ x. x.0) z, ap (λ x. x.1) z)

-- What holds of one reading holds of the other.
pub carried : {A : Type 0} (P : A → List ℕ → Type 0) {a b : A} {r s : List ℕ}
    → ◌≡◌ {A = Read A} (accepted (a, r)) (accepted (b, s)) → P a r → P b s
carried P e p = let z = value_same e in subst₂ P z.0 z.1 p

-- One byte was read.
pub byte_forth : (bs : List ℕ) {b : ℕ} {rest : List ℕ} → parse_byte bs ≡ accepted (b, rest) → bs ≡ b ∷ rest
unfolding parse_byte
byte_forth [] e = apart e
byte_forth (x ∷ xs) {b} {rest} e = let z = value_same e in rw (z.0, z.1)

-- A byte in range.
pub ranged_back : (n : ℕ) {low limit b : ℕ} (rest : List ℕ) → low ≤ b → b < limit → parse_ranged n low limit (b ∷ rest) ≡ accepted (b, rest)
unfolding parse_ranged parse_byte
ranged_back n rest h k = rw (le-leb _ _ h, lt-ltb _ _ k)

pub ranged_forth : (n low limit : ℕ) (bs : List ℕ) {b : ℕ} {rest : List ℕ} → parse_ranged n low limit bs ≡ accepted (b, rest)
    → (bs ≡ b ∷ rest) × (low ≤ b) × (b < limit)
unfolding parse_ranged
ranged_forth n low limit bs {b} {rest} e =
    parted (parse_byte bs) _ e λ x mid r f.
    checked n (in_range low limit x) f λ t v.
    let z = (both (leb low x) (ltb x limit)).0 t in
    carried (λ b rest. (bs ≡ b ∷ rest) × (low ≤ b) × (b < limit)) v
    (byte_forth bs r, (order low x).0 z.0, (order (suc x) limit).0 z.1)

-- A value is the default, or not, as its test says.
is_default : (default v : ℕ) {P : Type 0} → (eqb v default ≡ true → v ≡ default → P) → (eqb v default ≡ false → P) → P
is_default default v y n = elim (ℕ_discrete v default) [ yes e ↦ y (eq-eqb v default e) e | no h ↦ n (ne_eqb v default h) ]

-- A field that is written is read.
pub field_back : (n default v : ℕ) {low limit : ℕ} (rest : List ℕ) {present : Bool} → present ≡ not (eqb v default)
    → low ≤ v → v < limit
    → parse_field present n low limit default (field_of default v ++ rest) ≡ accepted (v, rest)
unfolding parse_field field_of
field_back n default v rest p h k =
    is_default default v (λ t e. rw (p, t, e)) (λ t. rw (p, t) (rw (ranged_back n rest h k, t)))

-- What reading a field tells.
pub record FieldRead (present : Bool) (low limit default v : ℕ) (bs rest : List ℕ) : Type 0 where
  pub bytes : bs ≡ field_of default v ++ rest
  pub stands : present ≡ not (eqb v default)
  pub least : low ≤ v
  pub most : v < limit

-- A field that is read was written so, where its default is in range.
pub field_forth : (present : Bool) (n low limit default : ℕ) (bs : List ℕ) {v : ℕ} {rest : List ℕ} → low ≤ default
    → default < limit
    → parse_field present n low limit default bs ≡ accepted (v, rest) → FieldRead present low limit default v bs rest
unfolding parse_field field_of
field_forth false n low limit default bs {v} {rest} h k e =
    let z = value_same e in
    let t : eqb v default ≡ true = eq-eqb v default (sym z.0) in
    record { bytes = rw t z.1; stands = rw t; least = rw z.0 at h; most = rw z.0 at k }
field_forth true n low limit default bs {v} {rest} h k e =
    parted (parse_ranged n low limit bs) _ e λ b mid r f.
    checked 5 (not (eqb b default)) f λ t w.
    let d = failed (eqb b default) (T_not (eqb b default) t) in
    let z = ranged_forth n low limit bs r in
    carried (λ v rest. FieldRead true low limit default v bs rest) w
    (record { bytes = rw d z.0; stands = rw d; least = z.1; most = z.2 })
