-- A tray is read record by record. What the rest is read as is read of the tray, behind the records before it; and so it is with what is
-- refused.
use mathlib.Core.List.{List, [], ◌∷◌}
use mathlib.Core.Path.{◌≡◌, refl, sym, ap, ◌∙◌}
use Prim.Native.Nat.{ℕ, ◌+◌, ◌-◌, ◌≤◌, ◌<◌}
use native.Mathlib.Decide.{dec_lt}
use native.Mathlib.Omega.{arith}
use lib.ListN.{length, take, drop, length-drop}
use lib.Seq.{take_all}
use Rattle.std.specs.Prelude.{None, Some}
use Rattle.model.specs.declared.Model.{Model}
use Rattle.model.specs.Results as result
use Rattle.model.specs.Valid.{Valid}
use Rattle.model.proofs.Results.{apart}
use Rattle.record.specs.declared.Front.{Front}
use Rattle.tray.specs.Answer.{first_reading_of, AtFront}
use Rattle.tray.specs.Tray.{Tray, none, refused, first, tray_of, rest_of}
use Rattle.tray.specs.Whole.{ReadAs, end, next, RefusedBy, here, behind}
use Rattle.tray.proofs.Parts.{to_end}
use Rattle.writer.specs.Writer.{record_of, head_bytes}
use Rattle.batch.specs.Counts.{Holds}

-- The bytes of a tray behind the first n.
abbrev pub part_from : List ℕ → ℕ → List ℕ
part_from s n = take (length s - n) (drop n s)

-- The first n bytes are the record of a valid model, and the rest lies behind them.
pub record Taken (s : List ℕ) (m : Model) (n : ℕ) : Type 0 where
  pub given : tray_of s ≡ first m (part_from s n)
  pub valid : Valid m
  pub within : n ≤ length s
  pub some : 0 < n

-- What an accepted front says of a tray, ..
said : (t : Tray) (f : Front) → result.accepted (Some f) ≡ first_reading_of t
    → (t ≡ first f.model (rest_of t)) × (f.size ≡ length (record_of f.model))
said none f e = let z : ◌≡◌ {A = ℕ} 0 1 = cc in absurd (omega arith)
said (refused n) f e = apart (sym e)
said (first m rest) f e = let same : f ≡ record { model = m; size = length (record_of m) } = cc in rw same (refl, refl)

-- .. what no front says, ..
said_none : (t : Tray) → result.accepted None ≡ first_reading_of t → t ≡ none
said_none none e = refl
said_none (refused n) e = apart (sym e)
said_none (first m rest) e = let z : ◌≡◌ {A = ℕ} 0 1 = cc in absurd (omega arith)

-- .. and what a refusal says.
said_refused : (t : Tray) {n : ℕ} → result.refused n ≡ first_reading_of t → t ≡ refused n
said_refused none e = apart e
said_refused (refused k) {n} e = let same : k ≡ n = cc in rw same refl
said_refused (first m rest) e = apart e

-- A record has a byte.
filled : (m : Model) → 0 < length (record_of m)
unfolding record_of head_bytes
filled m = omega arith

-- So an accepted record is taken.
pub taken : (s : List ℕ) (f : Front) → result.accepted (Some f) ≡ first_reading_of (tray_of s) → AtFront f.size s f.model
    → Taken s f.model f.size
taken s f e at =
    let t = said (tray_of s) f e in
    let n = f.size in
    let size : length (take n s) ≡ n = sym (t.1 ∙ ap length at.kept.rewritten) in
    let all : length s ≤ n → length (take n s) ≡ length s = λ h. ap length (take_all n s h) in
    let within : n ≤ length s = elim (dec_lt (length s) n) [ yes h ↦ omega (arith, all (omega arith)) | no h ↦ omega arith ] in
    record {
      given = t.0 ∙ ap (first f.model) (sym (to_end s n within ∙ at.rest));
      valid = at.kept.valid;
      within = within;
      some = omega (arith, filled f.model, t.1);
    }

-- Behind it there are fewer bytes.
pub fewer : {s : List ℕ} {m : Model} {n : ℕ} → Taken s m n → length (part_from s n) < length s
fewer {s} {n = n} t = omega (arith, t.some, t.within, ap length (to_end s n t.within) ∙ length-drop n s)

-- So many records are read, and this is the rest.
pub record Passed (tray rest : List ℕ) (n : ℕ) : Type 0 where
  pub few : n + length rest ≤ length tray
  pub reads : (ms : List Model) → ReadAs rest ms → Holds tray (n + length ms)
  pub refuses : (k : ℕ) → RefusedBy rest k → RefusedBy tray k

module _ {tray rest : List ℕ} {n : ℕ} (p : Passed tray rest n) where
  -- One more is passed.
  pub goes_on : {m : Model} {k : ℕ} → Taken rest m k → Passed tray (part_from rest k) (n + 1)
  goes_on {m} {k} t =
      let left : length (part_from rest k) ≡ length rest - k = ap length (to_end rest k t.within) ∙ length-drop k rest in
      record {
        few = omega (arith, t.some, t.within, p.few);
        reads = λ ms r.
            let h = p.reads (m ∷ ms) (next t.given r) in record { models = h.models; read = h.read; many = omega (arith, h.many) };
        refuses = λ j r. p.refuses j (behind t.given r);
      }

  -- A rest that is refused refuses the tray, ..
  pub refuses_here : {k : ℕ} → result.refused k ≡ first_reading_of (tray_of rest) → RefusedBy tray k
  refuses_here e = p.refuses _ (here (said_refused (tray_of rest) e))

  -- .. and one without a record ends it.
  pub ends_here : result.accepted None ≡ first_reading_of (tray_of rest) → Holds tray n
  ends_here e =
      let h = p.reads [] (end (said_none (tray_of rest) e)) in
      record { models = h.models; read = h.read; many = omega (arith, h.many) }
