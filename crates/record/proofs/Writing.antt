-- What a valid model gives the writer, and the three answers of the call, each with what the store then holds.
use mathlib.Core.List.{List, [], ◌∷◌, ◌++◌}
use mathlib.Core.Path.{◌≡◌, ◌∙◌}
use Prim.Native.Nat.{ℕ, ◌≤◌}
use native.Mathlib.Nat.{zero-add}
use native.Mathlib.Omega.{arith}
use lib.ListN.{length, take, drop}
use lib.Seq.{sets-eq, take-append_seam, length-take-le}
use lib.Dec.{leb}
use borrow.Author.Tests.{le-leb}
use Rattle.model.specs.declared.Model.{Model}
use Rattle.model.specs.declared.Thread.{Thread}
use Rattle.model.specs.declared.refusal.Refusal.{Refusal}
use Rattle.std.specs.Prelude as std
use Rattle.std.specs.Prelude.{Ok, Err}
use Rattle.model.specs.Fits.{ThreadFits}
use Rattle.model.specs.Results.{accepted, refused, refuse, first_of, store_by}
use Rattle.model.specs.Valid.{Valid, fault_of, store_refusal, Places}
use Rattle.model.specs.Refusals.{number_of, told}
use Rattle.model.proofs.Checks.{stops, closes}
use Rattle.model.proofs.Refusals.{number_some}
use Rattle.model.proofs.Ranges.{valid_fits}
use Rattle.model.proofs.Results.{due, kept}
use Rattle.writer.specs.Put.{Put, Small, SmallModel}
use Rattle.writer.specs.Writer.{record_of}
use Rattle.record.specs.Written.{written_of, store_of, Survives}
use Rattle.record.proofs.Records.{written_read}

-- A thread in range, of at most four states, is small.
small : (g : ℕ) (t : Thread) → g ≤ 4 → ThreadFits g t → Small t
small g t h f =
    record { count = f.count; halves = λ r k. let rule = f.rules r k in (omega arith, rule.top) }

-- A valid model is small.
pub small_model : (m : Model) → Valid m → SmallModel m
small_model m h =
    let f = (valid_fits m).0 h in
    record {
      target = omega (arith, f.target, f.g.1);
      a = small m.g m.a f.g.1 f.a;
      b = small m.g m.b f.g.1 f.b;
    }

-- Of a slice that is long enough as many bytes are taken as are asked for.
pub taken : (n : ℕ) (l : List ℕ) → n ≤ length l → length (take n l) ≡ n
taken n l h = length-take-le n l h

-- Bytes put at the front are the front.
pub front : {l m : List ℕ} {n : ℕ} (bytes : List ℕ) → Put l m 0 n bytes → length bytes ≤ length l → take n m ≡ bytes
front {l} {m} {n} bytes p h =
    rw (p.ends, p.stored, zero-add, sets-eq bytes l 0 (omega arith)) (take-append_seam bytes _)

module _ (m : Model) (store : List ℕ) where
  -- What the call promises of an answer and of the store as it leaves it.
  abbrev pub Told : std.Result ℕ Refusal → List ℕ → Type 0
  Told r new = (told r ≡ written_of m (length store)) × ((new ≡ store_of m store) × Survives m r new)

  -- The refusal that is due fixes what the store holds.
  fixed : (n : ℕ) → n ≡ store_refusal m (leb (length (record_of m)) (length store)) → store_by n (record_of m) store ≡ store_of m store
  unfolding store_of
  fixed n e = rw (← e)

  -- A refusal that is due is answered, and the store stays as it was ..
  refused_by : (r : Refusal) → number_of r ≡ store_refusal m (leb (length (record_of m)) (length store)) → Told (Err r) store
  unfolding written_of
  refused_by r e =
      let answer : refused (number_of r) ≡ written_of m (length store) = rw (← e) (due (accepted (length (record_of m))) (number_some r)) in
      (answer, (kept (number_of r) (record_of m) store (number_some r) ∙ fixed (number_of r) e, tt))

  -- .. for a model with a fault, its own ..
  pub faulty : (r : Refusal) → number_of r ≡ fault_of m → Told (Err r) store
  unfolding store_refusal
  faulty r e = refused_by r (stops (refuse 7 (leb (length (record_of m)) (length store)) ∷ []) e (number_some r))

  -- .. and for a valid one a record that does not fit ..
  pub short : Valid m → (r : Refusal) → number_of r ≡ refuse 7 (leb (length (record_of m)) (length store)) → Told (Err r) store
  unfolding store_refusal first_of
  short v r e = refused_by r (rw v (closes e))

  -- .. while one that fits is written, and is read back.
  pub whole : Valid m → Places m → {n : ℕ} → n ≡ length (record_of m) → n ≤ length store
      → Told (Ok n) (record_of m ++ drop n store)
  unfolding written_of store_refusal first_of
  whole v p {n} e h =
      let r : accepted n ≡ written_of m (length store) = rw (v, ← e, le-leb _ _ h) in
      let held : take n (record_of m ++ drop n store) ≡ record_of m = rw e (take-append_seam (record_of m) _) in
      (r, (rw e (fixed 0 (rw (v, ← e, le-leb _ _ h))), rw held (written_read m v p)))
