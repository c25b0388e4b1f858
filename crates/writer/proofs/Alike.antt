-- Unused rule places are not written: a thread's record is that of its first rules, as many as it counts, and these are
-- the same in models that are the same. And so are valid models that agree up to the order of their rules.
use mathlib.Core.List.{List, [], ◌∷◌}
use mathlib.Core.Path.{◌≡◌, refl}
use Prim.Native.Nat.{ℕ, zero, suc, ◌≤◌, ◌<◌}
use native.Mathlib.Omega.{arith}
use lib.ListN.{length, get_or, take}
use Rattle.model.specs.declared.Model.{Model}
use Rattle.model.specs.declared.Thread.{Thread}
use Rattle.model.specs.Rules.{zero_rule}
use Rattle.model.specs.UpToOrder.{UpToOrder, ByteMarks}
use Rattle.model.specs.Valid.{Valid, SameThread, Same, Places}
use Rattle.model.proofs.Ranges.{valid_fits}
use Rattle.model.proofs.Sets.{one_order}
use Rattle.writer.specs.Writer.{rules_of, map_of, head_bytes, record_of}

-- Lists that agree at their first k places have the same front.
take_same : {A : Type 0} (d : A) (k : ℕ) (xs ys : List A) → k ≤ length xs → k ≤ length ys
    → ((r : ℕ) → r < k → get_or xs r d ≡ get_or ys r d) → take k xs ≡ take k ys
take_same d zero xs ys h j e = refl
take_same d (suc k) [] ys h j e = absurd (omega arith)
take_same d (suc k) (x ∷ xs) [] h j e = absurd (omega arith)
take_same d (suc k) (x ∷ xs) (y ∷ ys) h j e =
    let first : x ≡ y = e 0 (omega arith) in
    rw (first, take_same d k xs ys (omega arith) (omega arith) (λ r l. e (suc r) (omega arith)))

-- The rules of threads that are the same.
same_rules : {t u : Thread} → SameThread t u → t.count ≤ 64 → length t.rules ≡ 64 → length u.rules ≡ 64
    → rules_of t ≡ rules_of u
unfolding rules_of
same_rules {t} {u} s h n k =
    rw (← s.count, take_same zero_rule t.count t.rules u.rules (omega arith) (omega arith) s.rules)

-- Models that are the same have the same record.
pub same_record : {m n : Model} → Same m n → Valid m → Places m → Places n → record_of m ≡ record_of n
unfolding record_of head_bytes map_of
same_record {m} {n} s v p q =
    let f = (valid_fits m).0 v in
    rw (
      same_rules s.a f.a.count p.a q.a,
      same_rules s.b f.b.count p.b q.b,
      s.g,
      s.k,
      s.start,
      s.target,
      s.a.top,
      s.b.top,
      s.a.held,
      s.b.held,
      s.a.symbols,
      s.b.symbols,
      s.a.first,
      s.b.first,
      s.a.count,
      s.b.count,
    )

-- Valid models that agree up to the order of their rules have one record.
pub one_record : {m n : Model} → UpToOrder m n → Valid m → Valid n → Places m → Places n → ByteMarks m → ByteMarks n
    → record_of m ≡ record_of n
one_record s v w p q x y = same_record (one_order s v w p q x y) v p q
