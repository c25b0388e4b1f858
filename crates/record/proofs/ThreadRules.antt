-- The rules of a thread both ways: a count that is a field with default 0, and then a list of so many rules.
use mathlib.Core.Bool.{Bool, not}
use mathlib.Core.List.{List, [], ◌∷◌, ◌++◌, append_assoc}
use mathlib.Core.Path.{◌≡◌, subst}
use Prim.Native.Nat.{ℕ, zero, suc, ◌-◌, ◌≤◌, ◌<◌, zero-le}
use native.Mathlib.Omega.{arith}
use lib.Dec.{eqb}
use lib.ListN.{length, get_or, take, replicate}
use lib.Seq.{take-append_seam, length-take-le}
use Rattle.model.specs.declared.Rule.{Rule}
use Rattle.model.specs.declared.Thread.{Thread}
use Rattle.model.specs.Order.{key_of}
use Rattle.model.specs.Results.{accepted}
use Rattle.model.specs.Rules.{zero_rule}
use Rattle.model.specs.Fits.{RuleFits, ThreadFits}
use Rattle.model.proofs.Ranges.{Crossed}
use Rattle.record.specs.Reader.{parse_field, parse_rule_list, parse_rules, thread_from}
use Rattle.writer.specs.Writer.{field_of, rule_list_of, rules_of, Extra}
use Rattle.record.proofs.OneField.{parted, field_back, field_forth}
use Rattle.record.proofs.RuleLists.{RulesFit, list_back, list_forth}
use Rattle.record.proofs.Tops.{ExtraFits}

-- Rules that are in range and ascend one by one do so as a list.
fit_list : (g least n : ℕ) (l : List Rule) → ((r : ℕ) → r < n → RuleFits g (get_or l r zero_rule))
    → ((r : ℕ) → suc r < n → key_of (get_or l r zero_rule) < key_of (get_or l (suc r) zero_rule))
    → (0 < n → least ≤ key_of (get_or l 0 zero_rule)) → RulesFit g least (take n l)
fit_list g least zero l f o k = tt
fit_list g least (suc n) [] f o k = tt
fit_list g least (suc n) (x ∷ xs) f o k = (
  f 0 (omega arith),
  k (omega arith),
  fit_list g (suc (key_of x)) n xs (λ r h. f (suc r) (omega arith)) (λ r h. o (suc r) (omega arith)) (λ h. o 0 (omega arith)),
)

-- So those of a thread that fits do.
pub thread_list : (g : ℕ) (t : Thread) → ThreadFits g t → RulesFit g 0 (take t.count t.rules)
thread_list g t f = fit_list g 0 t.count t.rules f.rules f.order (λ h. zero-le)

-- The rules of a thread that are written are read.
pub rules_back : {g : ℕ} (t : Thread) → ThreadFits g t → length t.rules ≡ 64 → (rest : List ℕ) {present : Bool}
    → present ≡ not (eqb t.count 0)
    → parse_rules present g (rules_of t ++ rest) ≡ accepted (take t.count t.rules, rest)
unfolding parse_rules rules_of
rules_back {g} t f n rest e =
    let rs : List Rule = take t.count t.rules in
    let size : length rs ≡ t.count = length-take-le t.count t.rules (omega (arith, f.count)) in
    let most : t.count < 65 = omega (arith, f.count) in
    rw (append_assoc (field_of 0 t.count) (rule_list_of rs) rest, field_back 4 0 t.count (rule_list_of rs ++ rest) e zero-le most)
    (subst (λ k. parse_rule_list g 0 k (rule_list_of rs ++ rest) ≡ accepted (rs, rest)) size (list_back g 0 rs (thread_list g t f) rest))

-- What reading the rules of a thread tells.
pub record RulesRead (g : ℕ) (present : Bool) (bs : List ℕ) (rs : List Rule) (rest : List ℕ) : Type 0 where
  pub bytes : bs ≡ field_of 0 (length rs) ++ (rule_list_of rs ++ rest)
  pub stands : present ≡ not (eqb (length rs) 0)
  pub most : length rs ≤ 64
  pub fits : RulesFit g 0 rs

-- Rules that are read were written so.
pub rules_forth : (present : Bool) (g : ℕ) (bs : List ℕ) {rs : List Rule} {rest : List ℕ}
    → parse_rules present g bs ≡ accepted (rs, rest) → RulesRead g present bs rs rest
unfolding parse_rules
rules_forth present g bs {rs} {rest} e =
    parted (parse_field present 4 0 65 0 bs) _ e λ n mid b f.
    let c = field_forth present 4 0 65 0 bs zero-le (omega arith) b in
    let l = list_forth g 0 n mid f in
    record {
      bytes = rw (l.size, ← l.bytes) c.bytes;
      stands = rw l.size c.stands;
      most = omega (arith, l.size, c.most);
      fits = l.fits;
    }

-- Rules in range as a list are in range one by one, whatever follows them, ..
pub fit_at : (g least : ℕ) (rs more : List Rule) → RulesFit g least rs → (r : ℕ) → r < length rs
    → RuleFits g (get_or (rs ++ more) r zero_rule)
fit_at g least [] more f r h = absurd (omega arith)
fit_at g least (x ∷ xs) more f zero h = f.0
fit_at g least (x ∷ xs) more f (suc r) h = fit_at g (suc (key_of x)) xs more f.2 r (omega arith)

-- .. and ascend one by one.
order_at : (g least : ℕ) (rs more : List Rule) → RulesFit g least rs → (r : ℕ) → suc r < length rs
    → key_of (get_or (rs ++ more) r zero_rule) < key_of (get_or (rs ++ more) (suc r) zero_rule)
order_at g least [] more f r h = absurd (omega arith)
order_at g least (x ∷ []) more f r h = absurd (omega arith)
order_at g least (x ∷ y ∷ ys) more f zero h = f.2.1
order_at g least (x ∷ y ∷ ys) more f (suc r) h = order_at g (suc (key_of x)) (y ∷ ys) more f.2 r (omega arith)

-- A thread that was read is in range, where its parts ask nothing of each other in vain.
pub thread_fits : (g first : ℕ) (x : Extra) (rs : List Rule) → first ≤ 15 → ExtraFits x → length rs ≤ 64 → RulesFit g 0 rs
    → Crossed (thread_from first x rs) → ThreadFits g (thread_from first x rs)
thread_fits g first x rs h t k f c =
    record {
      symbols = t.symbols;
      first = h;
      top = t.top;
      count = k;
      rules = fit_at g 0 rs (replicate (64 - length rs) zero_rule) f;
      order = order_at g 0 rs (replicate (64 - length rs) zero_rule) f;
      free = c.0;
      below = c.1;
    }

-- The bytes of a thread's rules that were read.
pub rules_bytes : (first : ℕ) (x : Extra) (rs : List Rule) (rest : List ℕ)
    → rules_of (thread_from first x rs) ++ rest ≡ field_of 0 (length rs) ++ (rule_list_of rs ++ rest)
unfolding rules_of
rules_bytes first x rs rest =
    rw (take-append_seam rs (replicate (64 - length rs) zero_rule), append_assoc (field_of 0 (length rs)) (rule_list_of rs) rest)
