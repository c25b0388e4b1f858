-- A number that says a reply is that reply's, so by what reading comes to each call has one number; and each store is given by an equation,
-- or is the line table, which leaves no bit open, or holds the least schedule, of which there is one.
use mathlib.Core.List.{List}
use mathlib.Core.Path.{◌≡◌, refl, sym, ap, subst, ◌∙◌}
use Prim.Native.Nat.{ℕ, zero, suc}
use contract.Lifetimes.{Lfts}
use denote.Bor.{Bor}
use denote.Ref.{MutBor, at_last}
use lib.ListN.{length}
use Rattle.std.specs.Prelude.{Ok}
use Rattle.model.specs.declared.Model.{Model}
use Rattle.model.specs.Bits.{Bytes}
use Rattle.model.specs.Results as result
use Rattle.merge.specs.Answer.{merging_of}
use Rattle.batch.proofs.Determined.{bytes_same}
use Rattle.judge.specs.Answer.{refusal_of, LeavesLines}
use Rattle.judge.proofs.Determined.{answers_determined, lines_determined as judge-lines}
use Rattle.reach.specs.Answer.{outcome_of}
use Rattle.reach.proofs.Determined.{leaves_determined}
use Rattle.record.specs.Reader.{Read, read_of}
use Rattle.ffi.specs.Replies.{Reply, number_of, judge_reply, batch_reply, Says}
use Rattle.ffi.specs.Calls.{Answered, WrittenBy, SecondCall, LeftBy}
use Rattle.ffi.proofs.turncheck_batch.Reads as batch
use Rattle.ffi.proofs.turncheck_first.Reads as first
use Rattle.ffi.proofs.turncheck_follow.Reads as follow
use Rattle.ffi.proofs.turncheck_judge.Reads as judge
use Rattle.ffi.proofs.turncheck_lines.Reads as lines
use Rattle.ffi.proofs.turncheck_merge.Reads as merge
use Rattle.ffi.proofs.turncheck_page.Reads as page
use Rattle.ffi.proofs.turncheck_read.Reads as read
use Rattle.ffi.proofs.turncheck_replay.Reads as replay
use Rattle.ffi.proofs.turncheck_sequentialize.Reads as sequentialize
use Rattle.ffi.proofs.turncheck_write.Reads as write

-- Two numbers that say one reply are the same ..
said : {r s : ℕ} {a : Reply} → Says r a → Says s a → r ≡ s
said p q = p.number ∙ sym q.number

-- .. and so with a store that is given.
both : {r s : ℕ} {a : Reply} {new new' given : List ℕ} → Says r a × (new ≡ given) → Says s a × (new' ≡ given) → (r ≡ s) × (new ≡ new')
both p q = (said p.0 q.0, p.1 ∙ sym q.1)

-- By what reading comes to: a refusal, or a model.
by_reading : {C : Type 0} (bytes : List ℕ) → ((n : ℕ) → read_of bytes ≡ result.refused n → C)
    → ((m : Model) (rest : List ℕ) → read_of bytes ≡ result.accepted (m, rest) → C) → C
by_reading {C} bytes f g = go (read_of bytes) refl
  where
    go : (x : Read Model) → read_of bytes ≡ x → C
    go (result.refused n) e = f n e
    go (result.accepted (m, rest)) e = g m rest e

-- Each contract is `Post`, of the arguments, the answer and the arguments at exit. Two results that meet it are the same: it determines the
-- number, and every byte of a store.

-- Reading.
pub read_determined : (κs : Lfts 1) (bytes : Bor (List ℕ)) (r s : ℕ)
    → read.Post κs (bytes, tt) r (bytes, tt) → read.Post κs (bytes, tt) s (bytes, tt) → r ≡ s
read_determined κs bytes r s p q =
    by_reading bytes.now (λ n e. said (rw e at p) (rw e at q)) (λ m rest e. said (rw e at p) (rw e at q))

-- The first record of a tray.
pub first_determined : (κs : Lfts 1) (tray : Bor (List ℕ)) (r s : ℕ)
    → first.Post κs (tray, tt) r (tray, tt) → first.Post κs (tray, tt) s (tray, tt) → r ≡ s
first_determined κs tray r s p q = said p.0 q.0

-- Replaying a schedule.
pub replay_determined : (κs : Lfts 2) (bytes schedule : Bor (List ℕ)) (r s : ℕ)
    → replay.Post κs (bytes, (schedule, tt)) r (bytes, (schedule, tt)) → replay.Post κs (bytes, (schedule, tt)) s (bytes, (schedule, tt))
    → r ≡ s
replay_determined κs bytes schedule r s p q =
    by_reading bytes.now (λ n e. said (rw e at p) (rw e at q)) (λ m rest e. said (rw e at p) (rw e at q))

-- Following a log.
pub follow_determined : (κs : Lfts 2) (bytes log : Bor (List ℕ)) (r s : ℕ)
    → follow.Post κs (bytes, (log, tt)) r (bytes, (log, tt)) → follow.Post κs (bytes, (log, tt)) s (bytes, (log, tt)) → r ≡ s
follow_determined κs bytes log r s p q =
    by_reading bytes.now (λ n e. said (rw e at p) (rw e at q)) (λ m rest e. said (rw e at p) (rw e at q))

-- Writing a record.
pub write_determined : (κs : Lfts 2) (bytes : Bor (List ℕ)) (store : MutBor (List ℕ)) (r s : ℕ) (new new' : List ℕ)
    → write.Post κs (bytes, (store, tt)) r (bytes, (at_last store new, tt))
    → write.Post κs (bytes, (store, tt)) s (bytes, (at_last store new', tt))
    → (r ≡ s) × (new ≡ new')
write_determined κs bytes store r s new new' p q =
    by_reading bytes.now (λ n e. both (rw e at p) (rw e at q)) (λ m rest e. both (rw e at p) (rw e at q))

-- The page of a schedule.
pub page_determined : (κs : Lfts 3) (bytes schedule : Bor (List ℕ)) (store : MutBor (List ℕ)) (r s : ℕ) (new new' : List ℕ)
    → page.Post κs (bytes, (schedule, (store, tt))) r (bytes, (schedule, (at_last store new, tt)))
    → page.Post κs (bytes, (schedule, (store, tt))) s (bytes, (schedule, (at_last store new', tt)))
    → (r ≡ s) × (new ≡ new')
page_determined κs bytes schedule store r s new new' p q =
    by_reading bytes.now (λ n e. both (rw e at p) (rw e at q)) (λ m rest e. both (rw e at p) (rw e at q))

-- The rules of the sequential system.
pub sequentialize_determined : (κs : Lfts 2) (bytes : Bor (List ℕ)) (store : MutBor (List ℕ)) (r s : ℕ) (new new' : List ℕ)
    → sequentialize.Post κs (bytes, (store, tt)) r (bytes, (at_last store new, tt))
    → sequentialize.Post κs (bytes, (store, tt)) s (bytes, (at_last store new', tt))
    → (r ≡ s) × (new ≡ new')
sequentialize_determined κs bytes store r s new new' p q =
    by_reading bytes.now (λ n e. both (rw e at p) (rw e at q)) (λ m rest e. both (rw e at p) (rw e at q))

-- What is left in a line store of bytes is determined.
left_determined : (m : Model) (n : ℕ) (old new new' : List ℕ) → Bytes new → Bytes new' → LeftBy n m old new → LeftBy n m old new' → new ≡ new'
left_determined m zero old new new' small small' p q = leaves_determined m (Ok tt) old new new' small small' p q
left_determined m (suc n) old new new' small small' p q = p ∙ sym q

-- The line table, in a store that holds bytes at exit, as its type says.
pub lines_determined : (κs : Lfts 2) (bytes : Bor (List ℕ)) (store : MutBor (List ℕ)) (r s : ℕ) (new new' : List ℕ) → Bytes new → Bytes new'
    → lines.Post κs (bytes, (store, tt)) r (bytes, (at_last store new, tt))
    → lines.Post κs (bytes, (store, tt)) s (bytes, (at_last store new', tt))
    → (r ≡ s) × (new ≡ new')
lines_determined κs bytes store r s new new' small small' p q =
    by_reading bytes.now (λ n e. both (rw e at p) (rw e at q)) λ m rest e.
    let x = rw e at p in
    let y = rw e at q in
    (said x.0 y.0, left_determined m (outcome_of m (length store.now)) store.now new new' small small' x.1 y.1)

-- A judgement with both stores: it is the only right one ..
answered_same : {m : Model} {r s : ℕ} {lines l l' schedule w w' : List ℕ} → Bytes l → Bytes l' → Answered m r lines l schedule w
    → Answered m s lines l' schedule w' → (r ≡ s) × (l ≡ l') × (w ≡ w')
answered_same {m} {r} {s} {lines} {l} {l'} {schedule} {w} {w'} small small' p q =
    let a = answers_determined m (refusal_of m (length lines) (length schedule)) p.judgement q.judgement schedule w w' p.right q.right
    p.witness q.witness in (
      p.says.number ∙ (ap (λ x. number_of (judge_reply x)) a.0 ∙ sym q.says.number),
      judge-lines m p.judgement lines l l' small small' p.table (subst (λ x. LeavesLines m x lines l') (sym a.0) q.table),
      a.1,
    )

-- .. on the model that was read. The line store holds bytes at exit, as its type says.
pub judge_determined : (κs : Lfts 3) (bytes : Bor (List ℕ)) (lines schedule : MutBor (List ℕ)) (r s : ℕ) (l l' w w' : List ℕ) → Bytes l → Bytes l'
    → judge.Post κs (bytes, (lines, (schedule, tt))) r (bytes, (at_last lines l, (at_last schedule w, tt)))
    → judge.Post κs (bytes, (lines, (schedule, tt))) s (bytes, (at_last lines l', (at_last schedule w', tt)))
    → (r ≡ s) × (l ≡ l') × (w ≡ w')
judge_determined κs bytes lines schedule r s l l' w w' small small' p q =
    by_reading bytes.now
    (λ n e. let x = rw e at p in
    let y = rw e at q in
    (said x.0 y.0, x.1 ∙ sym y.1, x.2 ∙ sym y.2))
    (λ m rest e. answered_same small small' (rw e at p) (rw e at q))

-- The record of two models made one: by what merging answers ..
written_by_lem : (x : result.Result Model) (old : List ℕ) {r s : ℕ} {new new' : List ℕ} → WrittenBy x r old new
    → WrittenBy x s old new' → (r ≡ s) × (new ≡ new')
written_by_lem (result.accepted whole) old p q = both p q
written_by_lem (result.refused n) old p q = both p q

-- .. and by what reading the second comes to ..
second_determined : (m : Model) (second old : List ℕ) (r s : ℕ) (new new' : List ℕ) → SecondCall m second r old new
    → SecondCall m second s old new' → (r ≡ s) × (new ≡ new')
second_determined m second old r s new new' p q =
    by_reading second (λ n e. both (rw e at p) (rw e at q)) λ n rest e.
    let x = rw e at p in
    let y = rw e at q in
    written_by_lem (merging_of m n) old x.0 y.0

-- .. and the first.
pub merge_determined : (κs : Lfts 3) (first second : Bor (List ℕ)) (store : MutBor (List ℕ)) (r s : ℕ) (new new' : List ℕ)
    → merge.Post κs (first, (second, (store, tt))) r (first, (second, (at_last store new, tt)))
    → merge.Post κs (first, (second, (store, tt))) s (first, (second, (at_last store new', tt)))
    → (r ≡ s) × (new ≡ new')
merge_determined κs first second store r s new new' p q =
    by_reading first.now (λ n e. both (rw e at p) (rw e at q)) λ m rest e.
    second_determined m second.now store.now r s new new' (rw e at p) (rw e at q)

-- The records of a tray judged: the number, and every byte of the list and of the store.
pub batch_determined : (κs : Lfts 3) (tray : Bor (List ℕ)) (list store : MutBor (List ℕ)) (r s : ℕ) (l l' w w' : List ℕ)
    → batch.Post κs (tray, (list, (store, tt))) r (tray, (at_last list l, (at_last store w, tt)))
    → batch.Post κs (tray, (list, (store, tt))) s (tray, (at_last list l', (at_last store w', tt)))
    → (r ≡ s) × (l ≡ l') × (w ≡ w')
batch_determined κs tray list store r s l l' w w' p q =
    let same = bytes_same p.listed q.listed in
    (p.says.number ∙ (ap (λ x. number_of (batch_reply x)) same.0 ∙ sym q.says.number), same.1, same.2)
