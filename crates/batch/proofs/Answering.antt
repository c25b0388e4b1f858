-- The tests of the sizes, and what is answered.
use mathlib.Core.List.{List, [], ◌++◌}
use mathlib.Core.Path.{◌≡◌, refl, sym}
use Prim.Native.Nat.{ℕ, zero, suc, ◌+◌, ◌≤◌, ◌<◌}
use native.Mathlib.Omega.{arith}
use lib.ListN.{length, take, drop}
use lib.Seq.{length-take-le, sets-eq}
use Rattle.std.proofs.lemmas.List.Edits.{sets}
use Rattle.std.specs.Prelude.{Result, Ok, Err}
use Rattle.model.specs.declared.refusal.Refusal.{Refusal}
use Rattle.model.specs.Refusals.{number_of}
use Rattle.model.specs.Results.{first_of}
use Rattle.model.specs.Schedules.{most_bytes}
use Rattle.model.proofs.Ranges.{checks}
use Rattle.model.proofs.Refusals.{number_some}
use Rattle.tray.specs.Whole.{RefusedBy}
use Rattle.batch.specs.declared.Outcome.{Outcome}
use Rattle.batch.specs.declared.together.Batch.{Batch}
use Rattle.batch.specs.Batch.{most_records, size_refusal, bad, sizes, Batched, Listed}
use Rattle.batch.specs.Counts.{Holds}
use Rattle.batch.specs.Each.{EachJudged, JudgesAll}

-- Sizes that are not refused: at most 32 records, places for them, and a store with room for every schedule.
pub fitting : (n places store : ℕ) → size_refusal n places store ≡ 0 → (n ≤ most_records) × (n ≤ places) × (most_bytes ≤ store)
unfolding size_refusal first_of
fitting n places store e = let z = simp checks at e in (z.0, z.1.0, z.1.1.0)

-- A bad record is refused ..
pub refuses_bad : {tray store : List ℕ} {places : ℕ} (r : Refusal) → RefusedBy tray (number_of r) → Batched tray places (Err r) [] store store
refuses_bad r h = (refl, bad h, refl)

-- .. and so are sizes.
pub refuses_sizes : {tray store : List ℕ} {n places : ℕ} (r : Refusal) → Holds tray n → number_of r ≡ size_refusal n places (length store)
    → Batched tray places (Err r) [] store store
refuses_sizes r h e = (refl, sizes h.read (rw h.many (sym e)) (some (number_of r) (number_some r)), refl)
  where
    some : (k : ℕ) → (k ≡ 0 → ⊥) → 0 < k
    some zero z = absurd (z refl)
    some (suc k) z = omega arith

-- All records are judged.
pub judges : {tray old new : List ℕ} {n places : ℕ} {list : List Outcome} → EachJudged tray n list old new
    → size_refusal n places (length old) ≡ 0 → JudgesAll tray places (Ok (record { count = n; outcomes = list })) old new
judges {old = old} {n = n} {places} {list} e h =
    let f = fitting n places (length old) h in (
      f.1,
      f.0,
      e.places,
      (
        sym (length-take-le n list (omega (arith, e.places, f.0))),
        record { models = e.models; read = e.read; sizes = rw e.many h; judged = e.judged },
      ),
    )

-- Stored from the front of the list on, outcomes are listed, whatever the answer is ..
pub listed : {tray : List ℕ} {list list' : List Outcome} {old new : List ℕ} {r : Result ℕ Refusal} (os : List Outcome)
    → Batched tray (length list) r os old new → list' ≡ sets list 0 os → Listed tray r list list' old new
listed os h e = record { outcomes = os; batched = h; filled = e }
