-- A list of rules read one by one into 64 places: those read so far stand before those still to come, whose keys are above theirs.
use mathlib.Core.Bool.{Bool, true}
use mathlib.Core.List.{List, [], ◌∷◌, ◌++◌, append_assoc, append-nil}
use mathlib.Core.Path.{◌≡◌, refl, sym}
use Prim.Native.Nat.{ℕ, suc, ◌+◌, ◌-◌, ◌≤◌, ◌<◌, zero-le}
use native.Mathlib.Numerals.{add-one}
use native.Mathlib.Omega.{arith}
use lib.ListN.{length, take, set, replicate}
use lib.Seq.{take-suc-set}
use lib.Dec.{leb}
use Rattle.model.specs.declared.Rule.{Rule}
use Rattle.model.specs.Order.{key_of}
use Rattle.model.specs.declared.refusal.Refusal.{Refusal}
use Rattle.model.specs.Refusals.{number_of}
use Rattle.model.specs.Results.{refused, accepted, refuse}
use Rattle.model.proofs.Refusals.{number_some}
use Rattle.model.specs.Rules.{zero_rule}
use Rattle.model.specs.Zero.{Padded}
use Rattle.model.proofs.Padded.{padded_none, padded_more}
use Rattle.record.specs.Reader.{Read, and_read, parse_field, parse_rule, parse_rule_list, parse_rules}
use Rattle.record.proofs.OneField.{field_forth}
use Rattle.record.proofs.Refused.{unrefused, refused_test}

-- Rules before a list that is read.
abbrev pub prepend : List Rule → Read (List Rule) → Read (List Rule)
prepend p (refused n) = refused n
prepend p (accepted (rs, rest)) = accepted (p ++ rs, rest)

prepend-nil : (x : Read (List Rule)) → x ≡ prepend [] x
prepend-nil (refused n) = refl
prepend-nil (accepted (rs, rest)) = refl

prepend_cons : (p : List Rule) (r : Rule) (x : Read (List Rule))
    → prepend p (and_read x (λ rs rest. accepted (r ∷ rs, rest))) ≡ prepend (p ++ (r ∷ [])) x
prepend_cons p r (refused n) = refl
prepend_cons p r (accepted (rs, rest)) = rw append_assoc

-- Of n rules that are wanted i are read, and the others come from the bytes left, with keys from `least` on.
pub record Progress (wanted : Read (List Rule)) (g n i least : ℕ) (rs : List Rule) (left : List ℕ) : Type 0 where
  pub low : i ≤ n
  pub fits : n ≤ 64
  pub padded : Padded zero_rule i rs
  pub same : wanted ≡ prepend (take i rs) (parse_rule_list g least (n - i) left)

-- A count that is refused, and with it the list.
pub uncounted : (present : Bool) (g : ℕ) (bs : List ℕ) {m : ℕ} → refused m ≡ parse_field present 4 0 65 0 bs
    → refused m ≡ parse_rules present g bs
unfolding parse_rules
uncounted present g bs e = rw (← e)

-- No rule is read yet, and at most 64 are wanted.
pub starts : (present : Bool) (g : ℕ) (bs : List ℕ) {n : ℕ} {left : List ℕ} → accepted (n, left) ≡ parse_field present 4 0 65 0 bs
    → Progress (parse_rules present g bs) g n 0 0 (replicate 64 zero_rule) left
unfolding parse_rules
starts present g bs {n} {left} e =
    let f = field_forth present 4 0 65 0 bs zero-le (omega arith) (sym e) in
    let all : n - 0 ≡ n = omega arith in
    record {
      low = zero-le;
      fits = omega (arith, f.most);
      padded = padded_none;
      same = rw (← e, all) (prepend-nil (parse_rule_list g 0 n left));
    }

module _ {wanted : Read (List Rule)} {g n i least : ℕ} {rs : List Rule} {left : List ℕ}
    (p : Progress wanted g n i least rs left) where
  -- The next rule is read ..
  pub steps : {r : Rule} {rest : List ℕ} {key : ℕ} → i < n → accepted (r, rest) ≡ parse_rule g left → key ≡ key_of r
      → 0 ≡ refuse 13 (leb least key) → Progress wanted g n (i + 1) (key + 1) (set rs i r) rest
  unfolding parse_rule_list
  steps {r} {rest} h e k l =
      let cut : n - i ≡ suc (n - suc i) = omega arith in
      let inside : i < length rs = omega arith in
      let enough : leb least (key_of r) ≡ true = unrefused 12 (leb least (key_of r)) (rw k at l) in
      rw (k, add-one i, add-one (key_of r))
      (record {
        low = omega arith;
        fits = p.fits;
        padded = padded_more r p.padded (omega arith);
        same =
            rw (take-suc-set rs i r inside, ← prepend_cons (take i rs) r (parse_rule_list g (suc (key_of r)) (n - suc i) rest))
            (rw (cut, ← e, enough) at p.same);
      })

  -- .. or refused, and with it the list ..
  pub breaks : {m : ℕ} → i < n → refused m ≡ parse_rule g left → refused m ≡ wanted
  unfolding parse_rule_list
  breaks h e = let cut : n - i ≡ suc (n - suc i) = omega arith in sym (rw (cut, ← e) at p.same)

  -- .. or too low ..
  pub falls : {r : Rule} {rest : List ℕ} {key : ℕ} → i < n → accepted (r, rest) ≡ parse_rule g left → key ≡ key_of r
      → (x : Refusal) → number_of x ≡ refuse 13 (leb least key) → refused (number_of x) ≡ wanted
  unfolding parse_rule_list
  falls {r} h e k x l =
      let cut : n - i ≡ suc (n - suc i) = omega arith in
      let low = refused_test 13 (number_of x) (leb least (key_of r)) (number_some x) (rw k at l) in
      rw low.0 (sym (rw (cut, ← e, low.1) at p.same))

  -- .. until none is left.
  pub stops : n ≤ i → accepted (take i rs, left) ≡ wanted
  unfolding parse_rule_list
  stops h = let none_left : n - i ≡ 0 = omega arith in sym (rw (none_left, append-nil) at p.same)
