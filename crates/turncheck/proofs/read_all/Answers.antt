use Rattle.std.proofs.Common.{◌≡◌, ℕ, ◌+◌, ◌≤◌, List, ◌++◌, rules, length, take, sym, ◌∙◌, ap, subst, length-take-le}
use Rattle.std.proofs.KnownBytes.{Consumes-trans}
use Rattle.std.proofs.Math.Seq.{take-append-add}
use Rattle.std.proofs.lemmas.List.{take-append-le}
use Rattle.std.specs.Io.KnownBytes.{Consumes}
use Rattle.turncheck.proofs.read_all.Goals as goal
use borrow.Rule.Slice.PartMut.{put_mid, post_of}

-- A slice after its part from a on was written: up to a as it was, and then what was written.
take-put_mid_more : (a k n : ℕ) (xs ys : List ℕ) → a ≤ length xs → n ≤ length ys → take (a + n) (put_mid a k xs ys) ≡ take a xs ++ take n ys
take-put_mid_more a k n xs ys within fits =
    let after = post_of a k xs in
    ap (λ m. take (m + n) (take a xs ++ (ys ++ after))) (sym (length-take-le a xs within)) ∙ take-append-add (take a xs) (ys ++ after) n
    ∙ ap (λ l. take a xs ++ l) (take-append-le n ys after fits)

pub loop-size-preserved : goal.loop-size-preserved
loop-size-preserved g c =
    let pieces = Consumes-trans _ _ _ _ _ c.loop-size.invariant.1 c.in_ok-n.ensures.bytes.0 in
    let stands = take-put_mid_more c.loop-size.size _ c.in_ok-n.n c.loop-size.buffer c.read.new.buf c.loop-size.invariant.0 c.in_ok-n.ensures.bound.0 in
    (search rules, subst (Consumes _ _) (sym stands) pieces)
