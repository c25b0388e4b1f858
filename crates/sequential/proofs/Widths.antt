-- The text of a line part by part, and how long each part is: a state has K+1 bytes, and a symbol one more than its digits.
use mathlib.Core.List.{[], ◌∷◌, ◌++◌, append-nil}
use mathlib.Core.Path.{◌≡◌, refl}
use Prim.Native.Nat.{ℕ, ◌+◌, ◌*◌, ◌≤◌, ◌<◌}
use native.Mathlib.Omega.{arith}
use lib.ListN.{length, length-append, length-map}
use lib.Seq.{length-take-le}
use Rattle.model.specs.declared.Right.{Right}
use Rattle.model.specs.declared.Right.TheVariants.{Remove, Swap, Push}
use Rattle.model.specs.Fits.{RightBelow}
use Rattle.model.specs.Rules.{put}
use Rattle.text.specs.Text.{decimal}
use Rattle.text.proofs.Numbers.{digits_2, digits_4}
use Rattle.sequential.specs.declared.state.State as held
use Rattle.sequential.specs.declared.state.Transition.{Transition}
use Rattle.sequential.specs.Parts.{state_of, rule_in}
use Rattle.sequential.specs.Text.{state_text, symbols_text, rule_text}

-- One symbol is a blank and its digits ..
pub one_symbol : (s : ℕ) → symbols_text (s ∷ []) ≡ (32 ∷ []) ++ decimal s
unfolding symbols_text
one_symbol s = rw (append-nil (decimal s))

-- .. and two are the one and the other.
pub two_symbols : (a b : ℕ) → symbols_text (a ∷ b ∷ []) ≡ symbols_text (a ∷ []) ++ symbols_text (b ∷ [])
unfolding symbols_text
two_symbols a b = rw (append-nil (decimal b), append-nil (decimal a))

pub length_one : (s : ℕ) → length (symbols_text (s ∷ [])) ≡ 1 + length (decimal s)
length_one s = rw (one_symbol s) (omega arith)

pub length_two : (a b : ℕ) → length (symbols_text (a ∷ b ∷ [])) ≡ 2 + length (decimal a) + length (decimal b)
length_two a b = rw (two_symbols a b) (simp length-append (omega (arith, length_one a, length_one b)))

-- No symbol has none.
pub length_none : length (symbols_text []) ≡ 0
unfolding symbols_text
length_none = refl

-- A symbol up to 35 has one or two digits.
pub few : {s n : ℕ} → s < 36 → n ≡ length (decimal s) → n ≤ 2
few {s} h e = omega (arith, digits_2 s (omega arith))

-- New symbols up to 35 are short.
pub short_new : (x : Right) → RightBelow 36 x → length (symbols_text (put x [])) ≤ 6
short_new Remove h = omega (arith, length_none)
short_new (Swap a) h = omega (arith, length_one a.0, digits_2 a.0 (omega arith))
short_new (Push a b) h =
    omega (arith, length_two a.0 b.0, digits_2 a.0 (omega (arith, h.0)), digits_2 b.0 (omega (arith, h.1)))

-- Any byte has at most four.
pub byte_few : {s n : ℕ} → s < 256 → n ≡ length (decimal s) → n ≤ 4
byte_few {s} h e = omega (arith, digits_4 s (omega arith))

-- A state has a byte for its counter and one for each copy.
pub length_state : (s : held.State) → length s.copies ≡ 3 → length (state_text (state_of s)) ≡ s.rounds + 1
unfolding state_text
length_state s e =
    rw (length-map, length-take-le s.rounds s.copies (omega (arith, s.few))) (omega arith)

-- A line.
pub length_rule : (r : Transition) → length r.from.copies ≡ 3 → length r.to.copies ≡ 3
    → length (rule_text (rule_in r)) ≡ 2 * r.from.rounds + 5 + length (decimal r.top) + length (symbols_text (put r.new []))
unfolding rule_text
length_rule r e f =
    simp length-append (omega (arith, length_state r.from e, length_state r.to f, length_one r.top, r.same))
