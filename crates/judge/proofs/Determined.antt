-- One verdict is true of a model, one schedule of its steps is the least, and a line table leaves no bit open: so the answer and both stores
-- are given.
use mathlib.Core.List.{List}
use mathlib.Core.Path.{◌≡◌, refl, sym, ap, subst, ◌∙◌}
use Prim.Native.Nat.{ℕ}
use native.Mathlib.Omega.{arith}
use contract.Lifetimes.{Lfts}
use denote.Ref.{MutBor, at_last}
use lib.ListN.{length}
use lib.Seq.{sets}
use Rattle.std.specs.Prelude.{Result, Ok, Err}
use Rattle.model.specs.declared.Depths.{Depths}
use Rattle.model.specs.declared.Model.{Model}
use Rattle.model.specs.declared.refusal.Refusal.{Refusal}
use Rattle.model.specs.Bits.{Bytes}
use Rattle.model.specs.Depths.{depths_of}
use Rattle.model.specs.Schedules.{bytes_of, Stored}
use Rattle.model.specs.Verdict.{found}
use Rattle.model.proofs.Firsts.{first_once}
use Rattle.model.proofs.Refusals.{number_names, number_some}
use Rattle.model.proofs.Verdicts.{one_verdict}
use Rattle.draw.proofs.Determined.{table_determined}
use Rattle.judge.specs.declared.Verdict.{Verdict}
use Rattle.judge.specs.declared.Verdict.TheVariants.{Clear, Long, Found}
use Rattle.judge.specs.Answer.{refusal_of, TrueOf, Answers, LeavesLines, Shows, LeavesSchedule, Witness}
use Rattle.judge.proofs.judge.Reads as judge

-- Two stores that hold the least schedule over the same old bytes are the same, and so are its depths.
stored_same : {m : Model} {n : ℕ} {d e : Depths} {old new new' : List ℕ} → Stored (Witness m n d) n 0 old new
    → Stored (Witness m n e) n 0 old new' → (d ≡ e) × (new ≡ new')
stored_same {m} {old = old} p q =
    let same = first_once p.run.least q.run.least in (
      p.run.deep ∙ (ap (depths_of m) same ∙ sym q.run.deep),
      p.shown ∙ (ap (λ ss. sets old 0 (bytes_of ss)) same ∙ sym q.shown),
    )

-- By the verdicts, of which at most one is true.
verdicts_determined : (m : Model) (v w : Verdict) (old new new' : List ℕ) → TrueOf m v → TrueOf m w → Shows m v old new
    → Shows m w old new' → (v ≡ w) × (new ≡ new')
verdicts_determined m Clear Clear old new new' a b p q = (refl, p ∙ sym q)
verdicts_determined m Long Long old new new' a b p q = (refl, p ∙ sym q)
verdicts_determined m (Found k d) (Found j e) old new new' a b p q =
    let v = one_verdict m (found k) (found j) a b in
    let same : j ≡ k = cc in
    let x = stored_same p (rw same at q) in
    (rw (same, x.0), x.1)
verdicts_determined m Clear Long old new new' a b p q = absurd (a b.0.0 b.0.1)
verdicts_determined m Clear (Found k d) old new new' a b p q = absurd (a q.steps q.run.least.run)
verdicts_determined m Long Clear old new new' a b p q = absurd (b a.0.0 a.0.1)
verdicts_determined m Long (Found k d) old new new' a b p q =
    absurd (omega (arith, a.1 q.steps q.run.least.run, q.count, b.0))
verdicts_determined m (Found k d) Clear old new new' a b p q = absurd (b p.steps p.run.least.run)
verdicts_determined m (Found k d) Long old new new' a b p q =
    absurd (omega (arith, b.1 p.steps p.run.least.run, p.count, a.0))

-- By the answers, of which at most one is right.
pub answers_determined : (m : Model) (n : ℕ) (r s : Result Verdict Refusal) (old new new' : List ℕ) → Answers m n r → Answers m n s
    → LeavesSchedule m r old new → LeavesSchedule m s old new' → (r ≡ s) × (new ≡ new')
answers_determined m n (Ok v) (Ok w) old new new' a b p q =
    let same = verdicts_determined m v w old new new' a.1 b.1 p q in
    (ap Ok same.0, same.1)
answers_determined m n (Err r) (Err s) old new new' a b p q = (ap Err (number_names r s (sym a ∙ b)), p ∙ sym q)
answers_determined m n (Ok v) (Err s) old new new' a b p q = absurd (number_some s (sym b ∙ a.0))
answers_determined m n (Err r) (Ok w) old new new' a b p q = absurd (number_some r (sym a ∙ b.0))

-- What an answer leaves in a line store of bytes is determined.
pub lines_determined : (m : Model) (r : Result Verdict Refusal) (old new new' : List ℕ) → Bytes new → Bytes new' → LeavesLines m r old new
    → LeavesLines m r old new' → new ≡ new'
lines_determined m (Ok v) old new new' small small' p q = table_determined m p q small small'
lines_determined m (Err r) old new new' small small' p q = p ∙ sym q

-- The contract (`Post`, of the arguments, the answer and the arguments at exit) determines the answer and every byte of both stores: two
-- results that meet it are the same. That the line store holds bytes at exit is what its type says.
pub judge_determined : (κs : Lfts 2) (m : Model) (lines schedule : MutBor (List ℕ)) (r s : Result Verdict Refusal) (l l' w w' : List ℕ) → Bytes l → Bytes l'
    → judge.Post κs (m, (lines, (schedule, tt))) r (m, (at_last lines l, (at_last schedule w, tt)))
    → judge.Post κs (m, (lines, (schedule, tt))) s (m, (at_last lines l', (at_last schedule w', tt)))
    → (r ≡ s) × (l ≡ l') × (w ≡ w')
judge_determined κs m lines schedule r s l l' w w' small small' p q =
    let number = refusal_of m (length lines.now) (length schedule.now) in
    let a = answers_determined m number r s schedule.now w w' p.0 q.0 p.1.1 q.1.1 in (
      a.0,
      lines_determined m r lines.now l l' small small' p.1.0 (subst (λ x. LeavesLines m x lines.now l') (sym a.0) q.1.0),
      a.1,
    )
