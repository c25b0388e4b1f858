-- How long the text can be: a line has at most 19 bytes, at one state and top there are at most 66 rules, and so on up. The bounds are
-- rough, and far below what a number of 32 bits holds.
use mathlib.Core.Bool.{Bool, true, false, cond, ◌&&◌}
use mathlib.Core.List.{List, [], ◌∷◌, ◌++◌}
use mathlib.Core.Path.{◌≡◌, refl, ap}
use Prim.Native.Nat.{ℕ, zero, suc, ◌+◌, ◌*◌, ◌^◌, ◌≤◌}
use native.Mathlib.Nat.{le_trans, suc-mul, mul-le-mul, pow-le-pow_left, pow-le-pow_right}
use native.Mathlib.Omega.{arith}
use lib.Dec.{leb, eqb}
use lib.ListN.{length, length-append, length-map, length-set}
use Rattle.model.specs.declared.Model.{Model}
use Rattle.model.specs.declared.Thread.{Thread}
use Rattle.model.specs.declared.ThreadId.{ThreadId}
use Rattle.model.specs.declared.ThreadId.TheVariants.{A, B}
use Rattle.model.specs.Fits.{Fits}
use Rattle.model.specs.Lines.{digits}
use Rattle.model.specs.Rules.{rule_at}
use Rattle.model.specs.Walk.{thread_of}
use Rattle.text.specs.Text.{decimal}
use Rattle.model.proofs.Inside.{fits_of}
use Rattle.sequential.specs.Allowed.{symbol_of, closing, at, copy, Allowed, Kind, acts, passes, closes, begins}
use Rattle.sequential.specs.Answer.{text_for}
use Rattle.sequential.specs.Listed.{Member, here, there, below, only_if, taker_of, act_of, acts_of, pass_of, begin_of, close_of}
use Rattle.sequential.specs.Listed.{rules_at, rules_of, rules_with, rules}
use Rattle.sequential.specs.Parts.{right_of}
use Rattle.sequential.specs.System.{State, StackRule}
use Rattle.sequential.specs.Text.{state_text, symbols_text, rule_text, text_of}
use Rattle.sequential.proofs.Listing.{listed_allowed}
use Rattle.sequential.proofs.Making.{right_low, right_symbols}
use Rattle.sequential.proofs.OneTop.{top_below}
use Rattle.sequential.proofs.Widths.{few, length_one, length_two, short_new}

-- The bytes of a state.
length_digits : (s : State) → length (state_text s) ≡ suc (length s.copies)
unfolding state_text
length_digits s = ap suc (length-map s.copies (λ x. 48 + x))

-- A rule keeps the number of copies ..
kept : {m : Model} {r : StackRule} → Kind m r → length r.next.copies ≡ length r.state.copies
kept (acts a) = rw a.after (simp length-set)
kept (passes a) = rw a.after
kept (closes a) = rw a.after
kept (begins a) = rw a.after

-- The closing symbols have two digits.
closing_few : (id : ThreadId) → length (decimal (closing id)) ≤ 2
closing_few A = few {s = 35} (omega arith) refl
closing_few B = few {s = 34} (omega arith) refl

-- .. and its new symbols are short.
short : {m : Model} → Fits m → {r : StackRule} → Kind m r → length (symbols_text r.new) ≤ 6
short {m} f (acts a) =
    let x = (rule_at (thread_of a.id m) a.number).right in
    let low = right_low a.id x ((fits_of f a.id).rules a.number a.listed).symbols in
    rw (a.right, right_symbols a.id x) (short_new (right_of a.id x) low)
short f {r} (passes a) =
    rw a.right (omega (arith, length_one r.top, few {s = r.top} (omega (arith, a.symbol)) refl))
short {m} f {r} (closes a) =
    rw a.right
    (omega (arith, length_two (closing a.id) r.top, closing_few a.id, few {s = r.top} (top_below m f r (closes a)) refl))
short {m} f (begins a) =
    let first = few {s = symbol_of B m.b.first.0} (omega (arith, f.b.first)) refl in
    rw a.right (omega (arith, length_two (symbol_of B m.b.first.0) 33, first, few {s = 33} (omega arith) refl))

-- A line has at most 19 bytes.
line_short : {m : Model} → Fits m → {r : StackRule} → Allowed m r → length (rule_text r) ≤ 19
unfolding rule_text
line_short {m} f {r} a =
    let top = few {s = r.top} (top_below m f r a.kind) refl in
    simp length-append
    (omega (
      arith,
      length_digits r.state,
      length_digits r.next,
      kept a.kind,
      a.state.count,
      f.k.1,
      length_one r.top,
      top,
      short f a.kind,
    ))

-- So so many lines have at most 19 times as many.
lines_short : (l : List StackRule) → ((r : StackRule) → Member r l → length (rule_text r) ≤ 19) → length (text_of l) ≤ 19 * length l
unfolding text_of
lines_short [] h = omega arith
lines_short (r ∷ l) h =
    let rest = lines_short l (λ s p. h s (there p)) in
    let first = h r here in
    simp length-append (omega arith)

-- Where each part has at most so many rules, n parts have at most n times as many.
many : (f : ℕ → List StackRule) (size n : ℕ) → ((i : ℕ) → length (f i) ≤ size) → length (below f n) ≤ n * size
unfolding below
many f size zero h = omega arith
many f size (suc n) h =
    let rest = many f size n h in
    let last = h n in
    rw (suc-mul n size) (simp length-append (omega arith))

-- A part with a test has at most one.
most_one : (test : Bool) (r : StackRule) → length (only_if test r) ≤ 1
most_one true r = omega arith
most_one false r = omega arith

-- The rules of a thread at a state and a top: at most one for each of its rules ..
acts_most : (t : Thread) (id : ThreadId) (s : State) (top : ℕ) → length (acts_of t id s top) ≤ t.count * 1
unfolding acts_of act_of
acts_most t id s top = many (λ r. act_of (rule_at t r) id s top) 1 t.count (λ r.
    most_one (eqb (rule_at t r).before.0 (copy s) && eqb (symbol_of id (rule_at t r).symbol.0) top) _)

-- .. and the pass, B's begin and the close are one each.
pass_most : (s : State) (top : ℕ) → length (pass_of s top) ≤ 1
unfolding pass_of
pass_most s top = most_one _ _

begin_most : (b : Thread) (s : State) (top : ℕ) → length (begin_of b s top) ≤ 1
unfolding begin_of
begin_most b s top = most_one (eqb s.counter 1 && eqb top (closing A)) _

close_most : (s : State) (top : ℕ) → length (close_of s top) ≤ 1
unfolding close_of
close_most s top = most_one (leb top 33) _

-- What both arms of a test have.
arms : (b : Bool) (x y : List StackRule) → length x ≤ 66 → length y ≤ 66 → length (cond b x y) ≤ 66
arms true x y h k = h
arms false x y h k = k

module _ {m : Model} (f : Fits m) where
  -- So those at a state and a top are at most 66 ..
  at_most : (s : State) (top : ℕ) → length (rules_at m s top) ≤ 66
  unfolding rules_at
  at_most s top =
      let id = taker_of top in
      let taken = acts_most (thread_of id m) id s top in
      let early : length (acts_of (thread_of id m) id s top ++ pass_of s top ++ begin_of m.b s top) ≤ 66 =
      simp length-append (omega (arith, taken, (fits_of f id).count, pass_most s top, begin_most m.b s top)) in
      arms (leb s.counter m.k) _ _ early (omega (arith, close_most s top))

  -- .. those at a state 36 times as many, and those at a counter at most 64 times as many again ..
  counter_most : (counter : ℕ) → length (rules_with m counter) ≤ 64 * 2376
  unfolding rules_with rules_of
  counter_most counter =
      let copies = le_trans (pow-le-pow_left f.g.1 m.k) (pow-le-pow_right {n = 4} (omega arith) f.k.1) in
      le_trans (many (λ v. rules_of m (at counter (digits m.g m.k v))) 2376 (m.g ^ m.k) (λ v. many (rules_at m _) 66 36 (at_most _)))
      (mul-le-mul {m₁ = 2376} {m₂ = 2376} copies (omega arith))

  -- .. for at most four counters, with 19 bytes each.
  pub text_bound : length (text_for m) ≤ 1000000000
  unfolding rules
  text_bound =
      let lines = lines_short (rules m) (λ r p. line_short f ((listed_allowed m f r).0 p)) in
      let all = many (λ c. rules_with m (suc c)) (64 * 2376) (m.k + 1) (λ c. counter_most (suc c)) in
      let four = mul-le-mul {n₁ = m.k + 1} {m₁ = 64 * 2376} {n₂ = 4} {m₂ = 64 * 2376} (omega (arith, f.k.1)) (omega arith) in
      omega (arith, lines, all, four)
