use mathlib.Core.List.{[], ◌∷◌, map-append}
use Prim.Native.Nat.{ℕ, ◌+◌}
use native.Mathlib.Numerals.{add-one}
use native.Mathlib.Omega.{arith}
use lib.ListN.{length-map, get_or, take}
use lib.Seq.{length-take-le, take-suc}
use Rattle.std.proofs.lemmas.List.{take_all}
use Rattle.sequential.specs.Text.{state_text}
use Rattle.writer.proofs.Outputs.{◌then◌}
use Rattle.sequential.proofs.line.put_digits.Goals as goal

pub byte-requires : goal.byte-requires
unfolding state_text
byte-requires c = omega arith

pub byte-requires-in-loop-copy : goal.byte-requires-in-loop-copy
unfolding state_text
byte-requires-in-loop-copy c =
    let digit : ℕ → ℕ = λ x. 48 + x in
    let all = take c.args.s.rounds c.args.s.copies in
    let i = c.loop-copy.copy-index in
    omega (arith, length-map all digit, length-map (take i all) digit, length-take-le i all (omega arith))

pub loop-copy-preserved : goal.loop-copy-preserved
loop-copy-preserved c =
    let digit : ℕ → ℕ = λ x. 48 + x in
    let all = take c.args.s.rounds c.args.s.copies in
    let i = c.loop-copy.copy-index in
    rw (add-one, take-suc all i 0 c.loop-copy-test.true, map-append digit (take i all) (get_or all i 0 ∷ []))
    (c.loop-copy.invariant then c.byte-in-loop-copy.ensures)

pub returns : goal.returns
unfolding state_text
returns c =
    let every = rw (take_all _ _ c.loop-copy-test.false) at c.loop-copy.invariant in c.byte.ensures then every
