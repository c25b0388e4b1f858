-- Rules both ways: the bytes of a rule in range are read as that rule, and a rule that was read was written so; then by
-- induction for lists of rules that ascend.
use mathlib.Core.Bool.{Bool, true, false, cond}
use mathlib.Core.List.{List, [], ◌∷◌, ◌++◌, append_assoc}
use mathlib.Core.Path.{◌≡◌, refl, ap}
use Prim.Native.Nat.{ℕ, zero, suc, ◌+◌, ◌*◌, ◌/◌, ◌%◌, ◌≤◌, ◌<◌, zero-le}
use native.Mathlib.Nat.{div-add-mod'}
use native.Mathlib.Omega.{arith}
use lib.Dec.{T, leb, ltb, eqb}
use lib.ListN.{length}
use borrow.Author.Tests.{le-leb, lt-ltb}
use Rattle.model.specs.declared.Right.{Right}
use Rattle.model.specs.declared.Right.TheVariants.{Remove, Swap, Push}
use Rattle.model.specs.declared.Rule.{Rule}
use Rattle.model.specs.Bits.{bit}
use Rattle.model.specs.Fits.{RightFits, RuleFits}
use Rattle.model.specs.Order.{key_of}
use Rattle.model.specs.Results.{accepted}
use Rattle.model.proofs.Results.{checked}
use Rattle.model.proofs.Tests.{order}
use Rattle.record.specs.Reader.{parse_byte, parse_field, rule_map, parse_symbol, parse_right, parse_rule, parse_rule_list}
use Rattle.writer.specs.Writer.{field_of, weight_of, symbols_of, symbol_bits, rule_bytes, rule_list_of}
use Rattle.record.proofs.OneField.{parted, carried, byte_forth}
use Rattle.record.proofs.OneField.{ranged_back, ranged_forth, field_back, FieldRead, field_forth}
use Rattle.record.proofs.Maps.{new_bits, rule_sum_lem, has_first, has_second, rule_bits}

-- A symbol both ways.
symbol_back : (b : ℕ) (rest : List ℕ) → b < 16 → parse_symbol (b ∷ rest) ≡ accepted (b, rest)
symbol_back b rest h = ranged_back 4 rest zero-le h

symbol_forth : (bs : List ℕ) {b : ℕ} {rest : List ℕ} → parse_symbol bs ≡ accepted (b, rest) → (bs ≡ b ∷ rest) × (b < 16)
symbol_forth bs e = let r = ranged_forth 4 0 16 bs e in (r.0, r.2)

-- The new symbols of a rule that are written are read.
right_back : (x : Right) → RightFits x → (rest : List ℕ) → parse_right (has_first x) (has_second x) (symbols_of x ++ rest) ≡ accepted (x, rest)
unfolding parse_right
right_back Remove f rest = refl
right_back (Swap a) f rest = rw (symbol_back a.0 rest f)
right_back (Push a b) f rest = rw (symbol_back a.0 (b.0 ∷ rest) f.0, symbol_back b.0 rest f.1)

-- What reading the new symbols tells.
record RightRead (first second : Bool) (x : Right) (bs rest : List ℕ) : Type 0 where
  bytes : bs ≡ symbols_of x ++ rest
  bits : new_bits first second ≡ symbol_bits x
  fits : RightFits x

-- New symbols that are read were written so.
right_forth : (first second : Bool) (bs : List ℕ) {x : Right} {rest : List ℕ} → parse_right first second bs ≡ accepted (x, rest)
    → RightRead first second x bs rest
unfolding parse_right
right_forth false second bs e =
    carried (λ x rest. RightRead false second x bs rest) e (record { bytes = refl; bits = refl; fits = tt })
right_forth true false bs e =
    parted (parse_symbol bs) _ e λ a mid r f.
    let z = symbol_forth bs r in
    carried (λ x rest. RightRead true false x bs rest) f (record { bytes = z.0; bits = refl; fits = z.1 })
right_forth true true bs e =
    parted (parse_symbol bs) _ e λ a mid r f.
    parted (parse_symbol mid) _ f λ b end s g.
    let z = symbol_forth bs r in
    let y = symbol_forth mid s in
    carried (λ x rest. RightRead true true x bs rest) g (record { bytes = rw (← y.0) z.0; bits = refl; fits = (z.1, y.1) })

-- The halves of a rule's pair byte.
halves : (a b : ℕ) → b ≤ 15 → ((a * 16 + b) / 16 ≡ a) × ((a * 16 + b) % 16 ≡ b)
halves a b h = (omega arith, omega arith)

-- A rule that is written is read.
pub rule_back : (g : ℕ) (r : Rule) → RuleFits g r → (rest : List ℕ) → parse_rule g (rule_bytes r ++ rest) ≡ accepted (r, rest)
unfolding parse_rule rule_bytes weight_of parse_byte
rule_back g r f rest =
    let h = halves r.before.0 r.symbol.0 f.top in
    let b = rule_bits (eqb r.after.0 r.before.0) r.right in
    rw (
      b.fits,
      h.0,
      h.1,
      lt-ltb _ _ f.state,
      append_assoc (field_of r.before.0 r.after.0) (symbols_of r.right) rest,
      field_back 4 r.before.0 r.after.0 (symbols_of r.right ++ rest) b.bit0 zero-le f.next,
      b.bit1,
      b.bit2,
      right_back r.right f.symbols rest,
    )

-- What reading a rule tells.
record RuleRead (g : ℕ) (bs : List ℕ) (r : Rule) (rest : List ℕ) : Type 0 where
  bytes : bs ≡ rule_bytes r ++ rest
  fits : RuleFits g r

-- The parts of a rule that were read make its bytes.
rule_made : {g map pair next : ℕ} {new : Right} {bs m₁ m₂ m₃ rest : List ℕ}
    → bs ≡ map ∷ m₁ → T (rule_map map) → m₁ ≡ pair ∷ m₂ → pair / 16 < g
    → FieldRead (bit 0 map) 0 g (pair / 16) next m₂ m₃ → RightRead (bit 1 map) (bit 2 map) new m₃ rest
    → RuleRead g bs (record { before = record { 0 = pair / 16 }; symbol = record { 0 = pair % 16 }; after = record { 0 = next }; right = new }) rest
unfolding rule_bytes weight_of
rule_made {g} {map} {pair} {next} {new} {bs} {m₁} {m₂} {m₃} {rest} e t p low f x =
    let sum : cond (eqb next (pair / 16)) 0 1 + symbol_bits new ≡ map = rule_sum_lem map t (eqb next (pair / 16)) new f.stands x.bits in
    record {
      bytes = rw (sum, div-add-mod', append_assoc (field_of (pair / 16) next) (symbols_of new) rest, ← x.bytes, ← f.bytes, ← p) e;
      fits = record { state = low; top = omega arith; next = f.most; symbols = x.fits };
    }

-- A rule that is read was written so.
rule_forth : (g : ℕ) (bs : List ℕ) {r : Rule} {rest : List ℕ} → parse_rule g bs ≡ accepted (r, rest) → RuleRead g bs r rest
unfolding parse_rule
rule_forth g bs {r} {rest} e =
    parted (parse_byte bs) _ e λ map m₁ b₁ e₁.
    checked 4 (rule_map map) e₁ λ t e₂.
    parted (parse_byte m₁) _ e₂ λ pair m₂ b₂ e₃.
    checked 4 (ltb (pair / 16) g) e₃ λ s e₄.
    let low = (order (suc (pair / 16)) g).0 s in
    parted (parse_field (bit 0 map) 4 0 g (pair / 16) m₂) _ e₄ λ next m₃ b₃ e₅.
    parted (parse_right (bit 1 map) (bit 2 map) m₃) _ e₅ λ new m₄ b₄ e₆.
    carried (RuleRead g bs) e₆
    (rule_made (byte_forth bs b₁) t (byte_forth m₁ b₂) low (field_forth (bit 0 map) 4 0 g (pair / 16) m₂ zero-le low b₃)
    (right_forth (bit 1 map) (bit 2 map) m₃ b₄))

-- All rules of a list are in range, and they ascend, with keys from `least` on.
abbrev pub RulesFit : ℕ → ℕ → List Rule → Type 0
RulesFit g least [] = Unit {0}
RulesFit g least (r ∷ rs) = RuleFits g r × (least ≤ key_of r) × RulesFit g (suc (key_of r)) rs

-- A list of rules that is written is read.
pub list_back : (g least : ℕ) (rs : List Rule) → RulesFit g least rs → (rest : List ℕ)
    → parse_rule_list g least (length rs) (rule_list_of rs ++ rest) ≡ accepted (rs, rest)
unfolding parse_rule_list rule_list_of
list_back g least [] f rest = refl
list_back g least (r ∷ rs) f rest =
    rw (
      append_assoc (rule_bytes r) (rule_list_of rs) rest,
      rule_back g r f.0 (rule_list_of rs ++ rest),
      le-leb _ _ f.1,
      list_back g (suc (key_of r)) rs f.2 rest,
    )

-- What reading a list of rules tells.
pub record ListRead (g least n : ℕ) (bs : List ℕ) (rs : List Rule) (rest : List ℕ) : Type 0 where
  pub bytes : bs ≡ rule_list_of rs ++ rest
  pub size : length rs ≡ n
  pub fits : RulesFit g least rs

-- A list of rules that is read was written so.
pub list_forth : (g least n : ℕ) (bs : List ℕ) {rs : List Rule} {rest : List ℕ} → parse_rule_list g least n bs ≡ accepted (rs, rest)
    → ListRead g least n bs rs rest
unfolding parse_rule_list rule_list_of
list_forth g least zero bs e = carried (ListRead g least 0 bs) e (record { bytes = refl; size = refl; fits = tt })
list_forth g least (suc n) bs e =
    parted (parse_rule g bs) _ e λ r m₁ b₁ e₁.
    checked 13 (leb least (key_of r)) e₁ λ t e₂.
    parted (parse_rule_list g (suc (key_of r)) n m₁) _ e₂ λ rs m₂ b₂ e₃.
    let first = rule_forth g bs b₁ in
    let others = list_forth g (suc (key_of r)) n m₁ b₂ in
    carried (ListRead g least (suc n) bs) e₃
    (record {
      bytes = rw (append_assoc, ← others.bytes) first.bytes;
      size = ap suc others.size;
      fits = (first.fits, (order least (key_of r)).0 t, others.fits);
    })
