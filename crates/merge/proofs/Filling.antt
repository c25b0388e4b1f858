-- A list filled into places one by one as it is gone along: what is filled stands before what is still to come.
use mathlib.Core.Bool.{Bool, true, false}
use mathlib.Core.List.{List, [], ◌∷◌, ◌++◌, append_assoc, append-nil, map, map-append}
use mathlib.Core.Path.{◌≡◌, refl, sym, ap, fun_ext, ◌∙◌}
use Prim.Native.Nat.{ℕ, zero, suc, ◌+◌, ◌-◌, ◌<◌}
use native.Mathlib.Numerals.{add-one}
use native.Mathlib.Omega.{arith}
use lib.Dec.{leb}
use lib.ListN.{length, take, set, get_or, replicate, length-append}
use lib.Seq.{take-suc-set}
use borrow.Author.Tests.{le-leb, lt-leb}
use Rattle.model.specs.declared.Rule.{Rule}
use Rattle.model.specs.declared.Thread.{Thread}
use Rattle.model.specs.Results.{refused, accepted, need}
use Rattle.model.specs.Rules.{zero_rule}
use Rattle.model.specs.Zero.{Padded, in_places}
use Rattle.model.proofs.Padded.{counts, fills, padded_none, padded_more}
use Rattle.model.proofs.Results.{accepted_same, apart}
use Rattle.merge.specs.declared.Filled.{Filled}
use Rattle.merge.specs.Answer.{bytes_from, flag_at, thread_with}
use Rattle.merge.specs.Joining.{filled_with, filling_of}
use Rattle.merge.specs.Union.{Entry}

-- So many of 64 places hold a list, and the others are zero.
pub record Holds {A : Type 0} (zero : A) (l : List A) (count : ℕ) (places : List A) : Type 0 where
  pub padded : Padded zero count places
  pub same : take count places ≡ l

module _ {A : Type 0} {blank : A} where
  holds_none : Holds blank [] 0 (replicate 64 blank)
  holds_none = record { padded = padded_none; same = refl }

  holds_more : {l : List A} {i : ℕ} {places : List A} (x : A) → Holds blank l i places → i < 64
      → Holds blank (l ++ (x ∷ [])) (suc i) (set places i x)
  holds_more {i = i} {places} x h p =
      record {
        padded = padded_more x h.padded p;
        same = take-suc-set places i x (omega (arith, h.padded.size)) ∙ ap (λ l. l ++ (x ∷ [])) h.same;
      }

  holds_all : {l : List A} {count : ℕ} {places : List A} → Holds blank l count places → places ≡ in_places blank l
  holds_all {l} {count} {places} h =
      let size : length l ≡ count = sym (ap length h.same) ∙ counts h.padded in
      sym (rw (size, ← h.same) (fills h.padded))

-- Of a list so many rules are filled in, with their marks, and the rest is still to come.
pub record Filling (es rest : List Entry) (count : ℕ) (rules : List Rule) (held : List Bool) : Type 0 where
  pub done : List Entry
  pub whole : done ++ rest ≡ es
  pub size : length done ≡ count
  pub places : Holds zero_rule (map (λ e. e.rule) done) count rules
  pub marks : Holds false (map (λ e. e.held) done) count held

-- Nothing is filled in yet ..
pub nothing : (es : List Entry) → Filling es es 0 (replicate 64 zero_rule) (replicate 64 false)
nothing es = record { done = []; whole = refl; size = refl; places = holds_none; marks = holds_none }

module _ {es rest : List Entry} {count : ℕ} {rules : List Rule} {held : List Bool} (f : Filling es rest count rules held) where
  -- .. then the next rule is ..
  pub next_filled : {x : Entry} {more : List Entry} → rest ≡ x ∷ more → count < 64
      → Filling es more (count + 1) (set rules count x.rule) (set held count x.held)
  next_filled {x} {more} e h =
      rw add-one
      (record {
        done = f.done ++ (x ∷ []);
        whole = append_assoc f.done (x ∷ []) more ∙ rw e at f.whole;
        size = length-append f.done (x ∷ []) ∙ omega (arith, f.size);
        places = rw (map-append (λ e. e.rule) f.done (x ∷ [])) (holds_more x.rule f.places h);
        marks = rw (map-append (λ e. e.held) f.done (x ∷ [])) (holds_more x.held f.marks h);
      })

  -- .. until there is no room for it ..
  pub no_room : {x : Entry} {more : List Entry} → rest ≡ x ∷ more → count ≡ 64 → refused 16 ≡ filling_of es
  no_room {x} {more} e h =
      let long = length-append f.done (x ∷ more) in
      let size : length es ≡ length (f.done ++ (x ∷ more)) = sym (ap length (rw e at f.whole)) in
      rw (lt-leb (length es) 64 (omega (arith, long, size, f.size))) refl

  -- .. or all are in.
  pub all_filled : rest ≡ [] → accepted (record { count = count; rules = rules; held = held }) ≡ filling_of es
  all_filled e =
      let all : f.done ≡ es = sym (append-nil f.done) ∙ rw e at f.whole in
      let low = f.places.padded.low in
      let size : length es ≡ count = rw all at f.size in
      rw (le-leb (length es) 64 (omega arith), size, rw all at (holds_all f.places), rw all at (holds_all f.marks)) refl

-- Zero places behind a list of flags are no flags.
padded_flag : (l : List Bool) (k p : ℕ) → get_or (l ++ replicate k false) p false ≡ get_or l p false
padded_flag [] zero p = refl
padded_flag [] (suc k) zero = refl
padded_flag [] (suc k) (suc p) = padded_flag [] k p
padded_flag (b ∷ l) k zero = refl
padded_flag (b ∷ l) k (suc p) = padded_flag l k p

padded_flags : (l : List Bool) → flag_at (in_places false l) ≡ flag_at l
unfolding flag_at
padded_flags l = fun_ext (padded_flag l (64 - length l))

-- A thread with what was filled in is the one with the rules of the list.
pub thread_filled : (t : Thread) (es : List Entry) (x : Filled) → accepted x ≡ filling_of es
    → accepted (record t { held = bytes_from (flag_at x.held) 0 8; count = x.count; rules = x.rules })
    ≡ need 16 (leb (length es) 64) (accepted (thread_with t es))
thread_filled t es x e = go (leb (length es) 64) e
  where
    go : (room : Bool) → accepted x ≡ need 16 room (accepted (filled_with es))
        → accepted (record t { held = bytes_from (flag_at x.held) 0 8; count = x.count; rules = x.rules })
        ≡ need 16 room (accepted (thread_with t es))
    go true h = rw (accepted_same h, padded_flags (map (λ e. e.held) es)) refl
    go false h = apart (sym h)
