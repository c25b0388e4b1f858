-- A tray is read in one way; one verdict is true of each model, and the outcomes are a function of the verdicts; one schedule is the least
-- of its length. So the answer, the list and the store are given.
use mathlib.Core.List.{List, [], ◌∷◌}
use mathlib.Core.Path.{◌≡◌, refl, sym, ap, ◌∙◌}
use Prim.Native.Nat.{ℕ, ◌*◌, ◌/◌}
use native.Mathlib.Omega.{arith}
use contract.Lifetimes.{Lfts}
use denote.Bor.{Bor}
use denote.Ref.{MutBor, at_last}
use lib.ListN.{length}
use lib.Seq.{sets}
use Rattle.model.specs.declared.Model.{Model}
use Rattle.model.specs.Schedules.{bytes_of}
use Rattle.model.specs.Verdict.{Verdict}
use Rattle.model.specs.Walk.{Step}
use Rattle.model.proofs.Firsts.{first_once}
use Rattle.model.proofs.Verdicts.{one_verdict}
use Rattle.tray.proofs.Once.{one_reading, one_refusal, one_of_both}
use Rattle.std.specs.Prelude.{Result, Ok, Err}
use Rattle.model.specs.declared.refusal.Refusal.{Refusal}
use Rattle.model.proofs.Refusals.{number_names}
use Rattle.batch.specs.declared.Outcome.{Outcome}
use Rattle.batch.specs.Batch.{size_refusal, Refuses, bad, sizes, AllJudged, Schedules, end, skipped, written}
use Rattle.batch.specs.Batch.{JudgedFrom, Together, Batched, Listed}
use Rattle.batch.specs.Bytes.{ListedBytes, outcome_bytes}
use Rattle.batch.specs.Outcomes.{outcomes_from}
use Rattle.batch.proofs.to_bytes.Reads as to-bytes

-- One list of verdicts is true of the models, ..
verdicts_same : (ms : List Model) (vs ws : List Verdict) → AllJudged ms vs → AllJudged ms ws → vs ≡ ws
verdicts_same [] [] [] p q = refl
verdicts_same [] [] (w ∷ ws) p q = absurd q
verdicts_same [] (v ∷ vs) ws p q = absurd p
verdicts_same (m ∷ ms) [] ws p q = absurd p
verdicts_same (m ∷ ms) (v ∷ vs) [] p q = absurd q
verdicts_same (m ∷ ms) (v ∷ vs) (w ∷ ws) p q =
    let first : v ≡ w = one_verdict m v w p.0 q.0 in
    let others : vs ≡ ws = verdicts_same ms vs ws p.1 q.1 in
    rw (first, others) refl

-- .. one list of steps is written, ..
schedules_same : {ms : List Model} {os : List Outcome} {ss ts : List Step} → Schedules ms os ss → Schedules ms os ts → ss ≡ ts
schedules_same end end = refl
schedules_same (skipped e p) (skipped f q) = schedules_same p q
schedules_same (skipped e p) (written f l q) = absurd (let z : ◌≡◌ {A = ℕ} 0 1 = cc in omega arith)
schedules_same (written e l p) (skipped f q) = absurd (let z : ◌≡◌ {A = ℕ} 0 1 = cc in omega arith)
schedules_same (written {ss = ss} {ts = ts} e l p) (written {ss = ss'} {ts = ts'} f k q) =
    let first : ts ≡ ts' = first_once l k in
    let others : ss ≡ ss' = schedules_same p q in
    rw (first, others) refl

-- .. so the outcomes and the store are the same.
judged_same : {used : ℕ} {ms : List Model} {os os' : List Outcome} {old new new' : List ℕ} → JudgedFrom used ms os old new
    → JudgedFrom used ms os' old new' → (os ≡ os') × (new ≡ new')
judged_same {used} {ms} {os} {os'} {old} p q =
    let verdicts = verdicts_same ms p.verdicts q.verdicts p.judged q.judged in
    let outcomes : os ≡ os' = p.outcomes ∙ (ap (outcomes_from used) verdicts ∙ sym q.outcomes) in
    let steps = schedules_same p.schedules (rw (← outcomes) at q.schedules) in
    (outcomes, p.stored ∙ (ap (λ ss. sets old (2 * used) (bytes_of ss)) steps ∙ sym q.stored))

-- A tray has one refusal, ..
refusal_same : {tray : List ℕ} {places store n k : ℕ} → Refuses tray places store n → Refuses tray places store k → n ≡ k
refusal_same (bad p) (bad q) = one_refusal p q
refusal_same (bad p) (sizes r e h) = absurd (one_of_both r p)
refusal_same (sizes r e h) (bad q) = absurd (one_of_both r q)
refusal_same {places = places} {store = store} (sizes r e h) (sizes s f l) =
    sym e ∙ (ap (λ ms. size_refusal (length ms) places store) (one_reading r s) ∙ f)

-- .. and is refused or judged.
one_answer : {tray old new : List ℕ} {places n : ℕ} {os : List Outcome} → Refuses tray places (length old) n
    → Together tray places os old new → ⊥
one_answer (bad p) t = one_of_both t.read p
one_answer {old = old} {places = places} (sizes r e h) t =
    let same = ap (λ ms. size_refusal (length ms) places (length old)) (one_reading r t.read) in omega (arith, e, same, t.sizes)

-- What is answered is determined, with the outcomes and the store.
pub batched_same : (tray : List ℕ) (places : ℕ) (r s : Result ℕ Refusal) (os os' : List Outcome) (old new new' : List ℕ)
    → Batched tray places r os old new → Batched tray places s os' old new' → (r ≡ s) × (os ≡ os') × (new ≡ new')
batched_same tray places (Ok n) (Ok k) os os' old new new' p q =
    let same = judged_same p.1.judged (rw (one_reading q.1.read p.1.read) at q.1.judged) in
    (ap Ok (p.0 ∙ (ap length same.0 ∙ sym q.0)), same.0, same.1)
batched_same tray places (Ok n) (Err s) os os' old new new' p q = absurd (one_answer q.1 p.1)
batched_same tray places (Err r) (Ok k) os os' old new new' p q = absurd (one_answer p.1 q.1)
batched_same tray places (Err r) (Err s) os os' old new new' p q =
    (ap Err (number_names r s (refusal_same p.1 q.1)), p.0 ∙ sym q.0, p.2 ∙ sym q.2)

-- Each contract is `Post`, of the arguments, the answer and the arguments at exit. Two results that meet it are the same: it determines ..

-- .. the answer, every byte of the list and every byte of the store.
pub bytes_same : {tray : List ℕ} {r s : Result ℕ Refusal} {list list' list'' old new new' : List ℕ} → ListedBytes tray r list list' old new
    → ListedBytes tray s list list'' old new' → (r ≡ s) × (list' ≡ list'') × (new ≡ new')
bytes_same {tray} {r} {s} {list} {old = old} {new} {new'} p q =
    let same = batched_same tray (length list / 6) r s p.outcomes q.outcomes old new new' p.batched q.batched in
    (same.0, p.filled ∙ (ap (λ os. sets list 0 (outcome_bytes os)) same.1 ∙ sym q.filled), same.2)

pub to_bytes_determined : (κs : Lfts 3) (list : MutBor (List ℕ)) (tray : Bor (List ℕ)) (store : MutBor (List ℕ)) (r s : Result ℕ Refusal) (l l' w w' : List ℕ)
    → to-bytes.Post κs (list, (tray, (store, tt))) r (at_last list l, (tray, (at_last store w, tt)))
    → to-bytes.Post κs (list, (tray, (store, tt))) s (at_last list l', (tray, (at_last store w', tt)))
    → (r ≡ s) × (l ≡ l') × (w ≡ w')
to_bytes_determined κs list tray store r s l l' w w' p q = bytes_same p q

-- The same with a list of structs: the answer, every place of the list and every byte of the store.
pub to_list_determined : (list : MutBor (List Outcome)) (tray : Bor (List ℕ)) (store : MutBor (List ℕ)) (r s : Result ℕ Refusal) (l l' : List Outcome) (w w' : List ℕ)
    → Listed tray.now r list.now l store.now w → Listed tray.now s list.now l' store.now w' → (r ≡ s) × (l ≡ l') × (w ≡ w')
to_list_determined list tray store r s l l' w w' p q =
    let same = batched_same tray.now (length list.now) r s p.outcomes q.outcomes store.now w w' p.batched q.batched in
    (same.0, p.filled ∙ (ap (sets list.now 0) same.1 ∙ sym q.filled), same.2)
