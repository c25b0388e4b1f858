-- One verdict is true of a model, and its text is fixed: the marked lines are, and so is the least schedule. So the text of a record is, and
-- every byte of the store.
use mathlib.Core.List.{List, ◌++◌}
use mathlib.Core.Path.{◌≡◌, sym, ap, subst, ◌∙◌}
use Prim.Native.Nat.{ℕ}
use native.Mathlib.Omega.{arith}
use contract.Lifetimes.{Lfts}
use denote.Bor.{Bor}
use denote.Ref.{MutBor, at_last}
use lib.ListN.{length}
use Rattle.model.specs.declared.Model.{Model}
use Rattle.model.specs.Depths.{depths_of}
use Rattle.model.specs.Results.{refused, accepted}
use Rattle.model.specs.Verdict.{Verdict, clear, long, found}
use Rattle.model.proofs.Firsts.{first_once}
use Rattle.model.proofs.Verdicts.{one_verdict}
use Rattle.record.specs.Reader.{Read, read_of}
use Rattle.report.specs.Prints.{Tells, Told, TextFor, Prints, Begins, Reports, text, short}
use Rattle.report.specs.Text.{found_line, step_lines}
use Rattle.report.proofs.Fixed.{counts_fixed}
use Rattle.report.proofs.report.Reads as report

-- The text of a verdict is fixed ..
tells_fixed : (m : Model) (v : Verdict) {s t : List ℕ} → Tells m v s → Tells m v t → s ≡ t
tells_fixed m clear p q = counts_fixed p q
tells_fixed m long p q = p ∙ sym q
tells_fixed m (found n) p q =
    p.shown ∙ (ap (λ ss. found_line n (depths_of m ss) ++ step_lines ss) (first_once p.run q.run) ∙ sym q.shown)

-- .. and so is that of a model, ..
told_fixed : {m : Model} {s t : List ℕ} → Told m s → Told m t → s ≡ t
told_fixed {m} {s} {t} p q =
    tells_fixed m p.verdict p.tells
    (subst (λ v. Tells m v t) (one_verdict m q.verdict p.verdict q.judged p.judged) q.tells)

-- .. of what reading comes to, and of a record.
text_fixed : (x : Read Model) {s t : List ℕ} → TextFor x s → TextFor x t → s ≡ t
text_fixed (refused n) p q = p ∙ sym q
text_fixed (accepted (m, rest)) p q = told_fixed p q

-- So a store that begins with it is.
begins_fixed : (bytes : List ℕ) {r s : ℕ} {old new new' : List ℕ} → Begins (Prints bytes) r old new → Begins (Prints bytes) s old new'
    → (r ≡ s) × (new ≡ new')
begins_fixed bytes {r} {s} {old} p q =
    let same = text_fixed (read_of bytes) p.kind q.kind in
    let count : r ≡ s = p.size ∙ (ap length same ∙ sym q.size) in
    (count, p.stored ∙ (rw (same, count) (sym q.stored)))

-- By whether there is room.
reports_fixed : (bytes : List ℕ) {r s : ℕ} {old new new' : List ℕ} → Reports bytes r old new → Reports bytes s old new'
    → (r ≡ s) × (new ≡ new')
reports_fixed bytes (text h p) (text k q) = begins_fixed bytes p q
reports_fixed bytes (short h p e) (short k q f) = (p ∙ sym q, e ∙ sym f)
reports_fixed bytes (text h p) (short k q f) = absurd (omega arith)
reports_fixed bytes (short h p e) (text k q) = absurd (omega arith)

-- The contract (`Post`, of the arguments, the answer and the arguments at exit) determines the answer and every byte of the store: two
-- results that meet it are the same.
pub report_determined : (κs : Lfts 2) (bytes : Bor (List ℕ)) (store : MutBor (List ℕ)) (r s : ℕ) (new new' : List ℕ)
    → report.Post κs (bytes, (store, tt)) r (bytes, (at_last store new, tt))
    → report.Post κs (bytes, (store, tt)) s (bytes, (at_last store new', tt))
    → (r ≡ s) × (new ≡ new')
report_determined κs bytes store r s new new' p q = reports_fixed bytes.now p.0 q.0
